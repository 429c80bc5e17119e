-- The calls on paths and members at work.
pub mod PathRefusals
pub mod PathSlots
