-- What exported calls make of the allowed rates.
pub mod Seen
pub mod Moved
pub mod Interference
pub mod BeforeFeedback
pub mod Changed
pub mod RoundTrip
pub mod Ported
pub mod Loop
