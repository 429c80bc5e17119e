-- The order of the refusals, by what a caller knows.
pub mod Noted
pub mod ReadOrder
pub mod Orders
