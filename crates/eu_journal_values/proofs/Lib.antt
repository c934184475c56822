pub mod BackLemmas
pub mod CodeLemmas
