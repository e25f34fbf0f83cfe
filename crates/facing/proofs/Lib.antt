pub mod Heap
pub mod Handles
pub mod Crossing
