pub mod Law
pub mod LineReading
pub mod Lines
