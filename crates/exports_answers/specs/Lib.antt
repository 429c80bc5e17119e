-- What answers and readings say, held to the calls before them.
pub mod Leaves
pub mod Besides
pub mod Traced
pub mod Status
