pub mod BehindLemmas
pub mod QueueLemmas
pub mod TurnLemmas
