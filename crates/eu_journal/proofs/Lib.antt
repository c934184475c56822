pub mod LineLemmas
pub mod WholeLemmas
