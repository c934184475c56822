pub mod Timers
pub mod Tallies
