pub mod Checked
pub mod Edges
