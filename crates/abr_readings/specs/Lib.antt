-- What the reading of one entry says, and where it stands.
pub mod Limits
pub mod Place
pub mod Entry
