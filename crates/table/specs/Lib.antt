-- The words of a state in the lent memory: where they stand, and what loading an entry and storing one make of them.
pub mod Layout
pub mod Loading
pub mod Storing
