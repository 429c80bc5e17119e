-- They hold.
pub mod PassedOver
pub mod Deaf
pub mod Waiting
pub mod Progress
pub mod LeftOut
