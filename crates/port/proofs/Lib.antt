pub mod Octets
pub mod Differences
pub mod Stores
pub mod Cases
pub mod Limited
pub mod Unchanged
pub mod Followed
