pub mod Reduced
pub mod Shared
pub mod Made
pub mod Seats
pub mod Allowed
pub mod EachKey
pub mod Crossed
pub mod Answered
pub mod OneClient
pub mod SamePairs
pub mod Sorted
pub mod Determined
pub mod Said
pub mod Written
mod Limits
