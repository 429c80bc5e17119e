-- They hold.
pub mod SlotTime
pub mod Gcra
pub mod Policed
pub mod Calls
pub mod Total
pub mod Lists
pub mod Served
