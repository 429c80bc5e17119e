-- The laws of the tournament in the words of a table.
pub mod Orders
pub mod Keyed
pub mod Stored
pub mod Matches
pub mod Midway
pub mod Replaying
pub mod States
pub mod Levels
pub mod Winning
