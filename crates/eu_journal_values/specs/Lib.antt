pub mod Answered
pub mod Limits
pub mod Members
pub mod Reading
pub mod Trees
pub mod Commands
pub mod Replies
