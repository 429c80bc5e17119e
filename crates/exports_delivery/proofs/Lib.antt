-- It does.
pub mod SlotTime
pub mod Policed
pub mod Obeyed
pub mod Rounds
pub mod Delivered
pub mod Room
