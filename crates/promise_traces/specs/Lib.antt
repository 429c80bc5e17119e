-- What the engine sends on one connection. Its trace passes. Before feedback no more goes in a round trip than
-- TBE, or the minimum, allows.
pub mod InRate
pub mod Written
pub mod Shortest
pub mod Traces
pub mod RoundTrip
