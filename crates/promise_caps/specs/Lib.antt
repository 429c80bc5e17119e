-- What the line delivers: caps on the rates, what they let the line carry, how far behind a slot is then passed,
-- and caps that the transmitter itself makes.
pub mod Capped
pub mod Lag
pub mod Fixed
pub mod Known
pub mod Own
pub mod Room
pub mod Served
