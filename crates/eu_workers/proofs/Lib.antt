pub mod TimerLemmas
pub mod Crossing
pub mod AllLemmas
pub mod TurnLemmas
pub mod PlaceLemmas
pub mod PutLemmas
