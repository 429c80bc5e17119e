-- One connection, as document 01 sets it out. Each file states one part of it; the code follows with the same names.
pub mod Parts
pub mod Change
pub mod Pace
pub mod Interval
pub mod Source
pub mod Destination
pub mod Received
pub mod Ready
pub mod Kind
pub mod Slot
-- What holds of every connection that calls made:
pub mod Invariant
-- For the code's own functions:
pub mod Range
