-- The two checks of a cell, from one definition of the remainder.
-- What document 01 says:
pub mod Remainder
pub mod Checks
-- That long division is the remainder:
pub mod Multiple
-- For the code's own functions:
pub mod Folding
pub mod Formula
