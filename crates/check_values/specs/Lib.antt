-- The starred checked values of document 01, and other numbers that are computed from the definitions.
pub mod Checked
pub mod Edges
