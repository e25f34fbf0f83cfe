mod Counting
pub mod Evicted
mod Full
mod Gets
mod Got
mod LastPut
mod Opened
mod Seen
