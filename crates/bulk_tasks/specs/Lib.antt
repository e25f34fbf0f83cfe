pub mod Folds
pub mod Searches
pub mod Actions
pub mod Batches
pub mod Plans
pub mod Sums
