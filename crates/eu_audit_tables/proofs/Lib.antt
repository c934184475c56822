pub mod MapLemmas
pub mod CountLemmas
pub mod WalkLemmas
