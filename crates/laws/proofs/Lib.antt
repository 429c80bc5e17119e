pub mod Blocks
pub mod Numbers
pub mod Rows
pub mod Tests
pub mod Trailing
