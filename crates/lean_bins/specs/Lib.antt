pub mod Segments
pub mod BinSlot
pub mod Homes
pub mod Holding
