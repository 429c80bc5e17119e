-- The laws of the four moves, for the crates above.
pub mod Cuts
pub mod FourMoves
pub mod SetupMoves
