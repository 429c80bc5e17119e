pub mod Received
pub mod Leaves
pub mod Besides
pub mod Traced
pub mod Status
