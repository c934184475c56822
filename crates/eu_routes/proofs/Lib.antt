pub mod PathLemmas
pub mod QueryLemmas
pub mod RouteLemmas
