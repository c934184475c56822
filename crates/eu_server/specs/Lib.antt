pub mod Ends
pub mod Served
pub mod Staff
pub mod Journal
pub mod Messages
pub mod Loops
