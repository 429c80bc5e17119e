-- The laws of rate codes and gaps, for the crates above.
pub mod Octaves
pub mod Codes
pub mod Gaps
