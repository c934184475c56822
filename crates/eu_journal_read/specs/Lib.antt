pub mod Drafts
pub mod Faults
pub mod Front
pub mod Law
pub mod Reader
pub mod Said
pub mod Stages
