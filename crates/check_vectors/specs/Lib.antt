-- The message of the published check values.
pub mod Message
