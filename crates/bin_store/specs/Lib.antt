pub mod Homes
pub mod Places
pub mod Glances
