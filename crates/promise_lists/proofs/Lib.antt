-- The promises hold.
pub mod Relation
pub mod Readings
pub mod Pairs
pub mod Received
pub mod Demand3
pub mod Refusals
pub mod Interference
pub mod Moves
pub mod NotOpen
pub mod Paths
