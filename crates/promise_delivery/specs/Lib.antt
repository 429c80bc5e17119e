-- The time that a transmitter passes to a slot, and what each connection is then delivered.
pub mod SlotTime
pub mod Gcra
pub mod Policed
pub mod Calls
pub mod Turns
pub mod Served
