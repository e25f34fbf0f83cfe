pub mod Shared
pub mod Plans
pub mod Folds
pub mod Searches
