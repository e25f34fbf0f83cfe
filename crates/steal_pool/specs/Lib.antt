pub mod Limits
pub mod Logs
pub mod Ways
pub mod Books
pub mod Shapes
pub mod Seating
