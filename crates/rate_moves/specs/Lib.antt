-- The four moves of the allowed rate, as document 01 sets them out; the code follows with the same names.
pub mod Moves
pub mod Bounds
pub mod SetupMoves
