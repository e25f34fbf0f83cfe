pub mod Cursor
pub mod Lists
pub mod Openings
pub mod Places
pub mod Sizes
pub mod Walks
