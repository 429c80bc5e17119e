pub mod Signed
pub mod Shown
