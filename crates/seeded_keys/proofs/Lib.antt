pub mod Crossing
pub mod Back
