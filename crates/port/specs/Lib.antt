-- An explicit-rate port, as document 02, L10 describes it: what it does to a passing cell,
-- and what is promised of that.
pub mod Limit
pub mod Port
-- For the code's own functions:
pub mod ErAlone
-- What is claimed: what a limited cell says and what it keeps, which cells stay as they are, and that connections
-- that follow the port stay within its capacity.
pub mod Limited
pub mod Unchanged
pub mod Followed
