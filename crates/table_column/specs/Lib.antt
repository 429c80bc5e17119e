pub mod Descending
pub mod Column
