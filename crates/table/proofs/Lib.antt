-- The laws of the words, for the crates that load and store them.
pub mod Records
pub mod Loaded
pub mod FirstLine
pub mod Bitmaps
pub mod Used
pub mod Directory
pub mod Nodes
pub mod Splits
pub mod Words
