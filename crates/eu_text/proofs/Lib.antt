pub mod OrderLemmas
pub mod FitLemmas
pub mod ReadLemmas
pub mod TextLemmas
pub mod ObjectLemmas
pub mod PieceLemmas
