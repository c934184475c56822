pub mod Joins
pub mod Registry
pub mod Shown
pub mod Answered
pub mod Stepped
pub mod State
pub mod Decided
pub mod Undone
