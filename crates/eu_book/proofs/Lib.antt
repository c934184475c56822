pub mod HistoryLemmas
pub mod KeyedLemmas
pub mod UndoneLemmas
pub mod BookLemmas
mod BusyLemmas
pub mod PeerLemmas
pub mod Crossing
