pub mod Handles
pub mod Targets
pub mod Calls
pub mod Closed
pub mod Pairs
pub mod Changes
