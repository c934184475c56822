pub mod Fault
pub mod Name
pub mod Values
pub mod Digits
pub mod Rest
pub mod Members
pub mod Limits
pub mod Gives
