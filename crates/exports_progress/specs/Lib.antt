-- That each connection gets on, by exported calls.
pub mod PassedOver
pub mod Progress
pub mod Deaf
pub mod LeftOut
