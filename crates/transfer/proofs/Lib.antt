pub mod Weights
pub mod Tiles
pub mod Known
pub mod Moves
pub mod Shared
