-- Each computed.
pub mod PathRefusals
pub mod PathSlots
