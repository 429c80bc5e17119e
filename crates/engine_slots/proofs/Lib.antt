-- What slots and out-of-rate cells do to the words of a table: one lemma for each way out.
pub mod SendCases
pub mod DataCases
pub mod KindCases
pub mod SlotCases
pub mod OutOfRateCases
