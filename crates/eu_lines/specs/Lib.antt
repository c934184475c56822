pub mod Lines
pub mod Faults
pub mod Script
pub mod Steps
