-- The laws of the parameters, for the crates above.
pub mod Ranges
pub mod RoundedUp
pub mod Setup
