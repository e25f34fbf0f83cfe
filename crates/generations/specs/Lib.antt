pub mod States
pub mod Shown
pub mod Generations
