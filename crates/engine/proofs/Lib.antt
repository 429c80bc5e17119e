-- What the calls do to the words of a table: one lemma for each way out of each call.
pub mod Outcomes
pub mod Members
pub mod CallCases
pub mod OpenCases
pub mod TimedCases
pub mod MakeCases
