-- Exact quotients of doubles, the parts of a bit pattern, and what holds of every import.
pub mod Fractions
pub mod Patterns
pub mod Tests
pub mod Splits
pub mod Digits
pub mod Exactness
pub mod Trips
pub mod Values
