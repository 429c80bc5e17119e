-- What the tests of a cell say of its reading.
pub mod Cases
