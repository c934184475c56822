pub mod Response
pub mod Policy
pub mod Asks
pub mod Written
