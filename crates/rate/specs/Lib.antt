-- Rates, as document 01 sets them out. Each file states one part of it; the code follows with the same names.
pub mod Units
pub mod Code
pub mod Gap
