pub mod Progress
pub mod Rest
pub mod Earliest
pub mod Examples
pub mod Refusals
pub mod RoundTrip
