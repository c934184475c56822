pub mod Table
pub mod Path
pub mod Query
