pub mod Fault
pub mod Session
pub mod Steps
pub mod Talk
pub mod Book
pub mod Listings
