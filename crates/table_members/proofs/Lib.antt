pub mod Packed
pub mod Places
pub mod Found
pub mod Changes
pub mod Runs
pub mod Scans
pub mod Turns
