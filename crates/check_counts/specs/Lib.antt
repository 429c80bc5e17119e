-- The comparisons that some calls make, as many members as there can be, and the numbers of this edition.
pub mod Counts
pub mod Crowded
pub mod Edition
