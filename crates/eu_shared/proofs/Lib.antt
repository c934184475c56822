pub mod TrimLemmas
pub mod SumLemmas
pub mod ClosingLemmas
pub mod AnswerLemmas
pub mod Crossing
