-- Rates as doubles: what exporting and importing give.
pub mod Export
pub mod Import
-- What holds of every import:
pub mod Refused
pub mod Exact
pub mod RoundTrip
pub mod Values
-- For the code's own functions:
pub mod Pattern
