-- The promises on whole lists of exported calls.
pub mod Returned
pub mod Exports
pub mod Along
pub mod Known
pub mod LastTime
pub mod Comparisons
pub mod NextReady
pub mod Changes
pub mod Planning
pub mod Recorded
pub mod Conservation
pub mod Orders
