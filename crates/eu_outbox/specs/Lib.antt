pub mod Boxed
pub mod Lined
pub mod Steps
