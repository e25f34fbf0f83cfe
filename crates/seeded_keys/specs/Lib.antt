pub mod Seeds
pub mod Places
pub mod Mixing
