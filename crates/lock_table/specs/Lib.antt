pub mod Places
pub mod Plays
pub mod Taken
pub mod Lending
