-- Who is served when, by exported calls.
pub mod Ready
pub mod Slots
pub mod Next
pub mod Served
pub mod Restart
pub mod Turn
pub mod Fairness
