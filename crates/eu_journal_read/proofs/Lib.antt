mod ForwardLemmas
mod LawLemmas
mod RunLemmas
mod SaidLemmas
mod WrittenLemmas
pub mod EndLemmas
pub mod EntryLemmas
pub mod OutcomeLemmas
pub mod ReadLemmas
pub mod ReaderLemmas
