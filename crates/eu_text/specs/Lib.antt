pub mod Tree
pub mod Fit
pub mod Text
pub mod Object
