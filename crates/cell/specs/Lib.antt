-- The cell, as document 01 describes it, with the addresses of document 02, L6. Each file states one part. The
-- code follows with the same names.
pub mod Octets
pub mod Name
pub mod Header
pub mod Fields
pub mod Read
pub mod Reading
pub mod Writing
pub mod Turning
-- For the code's own functions:
pub mod Refusals
-- What is claimed of them: which cells are taken in, and what a turned cell is read as.
pub mod Admitted
pub mod Returned
pub mod Form
