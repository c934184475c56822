pub mod Term
pub mod Meter
pub mod Threshold
