-- Why the code meets its contracts, and the laws of a payload's words.
pub mod Words
