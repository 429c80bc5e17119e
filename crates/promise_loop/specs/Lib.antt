-- The loop of a source and an explicit-rate port: what one rate record does, and what every list of calls does.
pub mod Settled
pub mod Share
pub mod Loop
pub mod Turned
pub mod Examples
