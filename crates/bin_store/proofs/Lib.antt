pub mod Glances
pub mod Fitting
pub mod Shared
