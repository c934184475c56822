pub mod Texts
pub mod Bytes
pub mod Steps
pub mod Stages
