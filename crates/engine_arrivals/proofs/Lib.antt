-- What a received cell does to the words of a table: one lemma for each way out.
pub mod Owners
pub mod ReceiveCases
