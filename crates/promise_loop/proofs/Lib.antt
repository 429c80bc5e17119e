-- The loop settles.
pub mod Settled
pub mod Share
pub mod Fed
pub mod Others
pub mod Loop
pub mod Turned
pub mod Examples
