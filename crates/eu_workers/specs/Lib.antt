pub mod Ended
pub mod Returned
pub mod Timers
pub mod All
pub mod News
pub mod Visits
pub mod Long
