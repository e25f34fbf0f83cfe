pub mod Entries
pub mod Counted
pub mod Caches
