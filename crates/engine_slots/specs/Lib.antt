-- What a slot writes and leaves, for the code's own functions.
pub mod Slots
