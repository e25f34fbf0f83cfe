pub mod Views
pub mod Places
pub mod Walks
pub mod BinsWithRoles
pub mod Names
