pub mod Turns
pub mod Law
