pub mod Descending
pub mod Shifts
pub mod Counts
pub mod Halving
pub mod Parts
pub mod Moves
pub mod Runs
