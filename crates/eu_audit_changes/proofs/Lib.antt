pub mod ChangedLemmas
