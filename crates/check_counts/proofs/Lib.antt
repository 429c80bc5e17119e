-- Each computed.
pub mod Counts
pub mod Crowded
pub mod Edition
