pub mod Desks
pub mod Alike
pub mod Scripts
pub mod Audits
pub mod Texts
