pub mod KeyLemmas
pub mod NameLemmas
pub mod HostLemmas
pub mod RestLemmas
pub mod StatusLemmas
pub mod Crossing
pub mod DigitLemmas
