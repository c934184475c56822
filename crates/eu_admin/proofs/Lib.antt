pub mod LawLemmas
pub mod MarkupLemmas
pub mod RunLemmas
