pub mod Audit
pub mod Faults
