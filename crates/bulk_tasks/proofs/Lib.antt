pub mod Ranges
pub mod Folding
pub mod Probing
pub mod Orders
