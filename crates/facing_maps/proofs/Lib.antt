pub mod Crossing
pub mod Copied
pub mod Walking
pub mod Asked
pub mod Shown
pub mod Weaker
