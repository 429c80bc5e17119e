-- The laws of one connection.
pub mod Ranged
pub mod Reached
pub mod FieldsFit
pub mod SourceCases
pub mod DestinationCases
pub mod Turnings
pub mod Keeps
pub mod Readiness
pub mod Spaced
pub mod Waited
pub mod Differences
