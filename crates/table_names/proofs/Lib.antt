pub mod Samples
pub mod Places
pub mod Changes
pub mod Moved
pub mod Entering
pub mod Leaving
pub mod Directories
pub mod Found
