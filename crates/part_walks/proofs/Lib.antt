mod FromBehind
mod JoinedParts
mod Parting
pub mod Taking
