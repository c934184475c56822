pub mod Ends
pub mod Plans
