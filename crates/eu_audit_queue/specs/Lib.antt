pub mod PlainQueue
pub mod Names
