pub mod NameLemmas
pub mod LineLemmas
pub mod NoteLemmas
pub mod ApartLemmas
