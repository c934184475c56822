pub mod Journals
pub mod Adding
pub mod Ending
