-- The engine as documents 01 and 02 describe it, without a word of memory: read this first.
-- The table, and the connection that a slot goes to:
pub mod State
pub mod Winner
-- The tournament that finds the winner, and the comparisons that a call makes in it:
pub mod Tournament
-- The calls, each with its refusals in order, and lists of calls:
pub mod Answers
pub mod Call
pub mod Aspects
pub mod Step
pub mod Details
pub mod Queries
pub mod Status
pub mod SlotTime
pub mod Returned
pub mod Run
-- What holds of every table that calls made:
pub mod Invariant
-- The refusals of each call in order, with their conditions:
pub mod Orders
-- Whose time counts, and what rate a slot answers:
pub mod Times
-- Every data cell is accounted for, call by call:
pub mod Conservation
