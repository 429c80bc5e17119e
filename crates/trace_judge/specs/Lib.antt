-- The judge of a foreign transmitter's trace, as document 02, L11 sets it out, and what is promised of it.
pub mod Rules
pub mod Octets
pub mod Promises
-- And of a source before feedback (document 02, L14):
pub mod RoundTrip
-- And computed:
pub mod Examples
-- For the code's own functions:
pub mod Kept
