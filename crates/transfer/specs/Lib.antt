pub mod Limits
pub mod Ranges
pub mod Books
pub mod Steps
pub mod Views
