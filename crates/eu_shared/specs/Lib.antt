pub mod Shares
pub mod Passes
pub mod PassCode
pub mod Closing
pub mod Seat
