-- The parameters of an open, as document 01 sets them out; the code follows with the same names.
pub mod Params
pub mod Ranges
-- What TBE and FRTT make of an open:
pub mod Setup
-- The slot's rule over Nrm and Trm:
pub mod Forward
