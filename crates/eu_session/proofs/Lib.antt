mod BookLemmas
mod FaultLemmas
pub mod KeepLemmas
mod ListingLemmas
mod SessionLemmas
mod TalkLemmas
mod TurnLemmas
