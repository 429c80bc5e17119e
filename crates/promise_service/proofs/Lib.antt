-- Connections are served so.
pub mod Becomes
pub mod SentWaited
pub mod Liveness
pub mod NextReady
pub mod Counted
pub mod PassedOver
pub mod LeftOut
pub mod Deaf
pub mod Progress
pub mod Restart
pub mod Fairness
