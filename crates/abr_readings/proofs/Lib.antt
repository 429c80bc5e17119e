-- What the readings find in the words of a state: one lemma for each way out.
pub mod Shown
pub mod EntryCases
pub mod PlaceCases
pub mod LeafCases
pub mod LimitCases
pub mod MemberCases
pub mod TotalCases
