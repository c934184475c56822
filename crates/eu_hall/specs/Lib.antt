pub mod Leaving
pub mod Phases
pub mod Places
pub mod Rooms
pub mod Troubles
pub mod Waiting
