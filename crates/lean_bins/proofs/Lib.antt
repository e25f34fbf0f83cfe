pub mod SlotRefs
pub mod Halves
pub mod Opened
pub mod Shared
