-- The members of paths: what they are, what adding, removing and serving make of them, and what holds of them.
pub mod Path
pub mod Members
pub mod Turn
pub mod Invariant
pub mod Fairness
