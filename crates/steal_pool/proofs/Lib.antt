pub mod Moves
pub mod Halves
pub mod Seating
pub mod Sums
pub mod Settling
pub mod Shapes
