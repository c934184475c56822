pub mod NameLemmas
pub mod TaskLemmas
pub mod EntryLemmas
pub mod Crossing
