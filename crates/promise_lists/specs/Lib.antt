-- The promises on whole lists of calls.
pub mod Congestion
pub mod Demand3
pub mod Refusals
pub mod Interference
pub mod Moves
pub mod Paths
