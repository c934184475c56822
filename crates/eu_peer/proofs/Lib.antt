mod TurnLemmas
pub mod KeepLemmas
pub mod BusyLemmas
