-- The numbers of a trace, as document 02, L11 sets them out.
pub mod Numbers
-- What is claimed of them:
pub mod Shortest
