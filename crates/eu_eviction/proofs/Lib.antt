pub mod RowLemmas
pub mod OnceLemmas
pub mod Crossing
