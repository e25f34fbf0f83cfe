mod AllPasses
mod Rows
pub mod Passes
mod Computing
mod Inserts
mod Lengths
mod ManyPuts
mod Turns
mod Whole
mod Walked
mod Kept
mod Made
mod Replacements
mod Replies
pub mod Tallies
pub mod Crossing
