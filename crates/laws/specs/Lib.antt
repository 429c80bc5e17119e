-- Blocks of words, runs of stores, rows of values, and refusals in order.
pub mod All
pub mod Blocks
pub mod Rows
pub mod Require
pub mod Refusals
pub mod Numbers
