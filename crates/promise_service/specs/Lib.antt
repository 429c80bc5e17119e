-- What a connection is served.
pub mod Spacing
pub mod SentWaited
pub mod Liveness
pub mod NextReady
pub mod Restart
pub mod Fairness
pub mod PassedOver
pub mod Progress
pub mod Deaf
pub mod LeftOut
