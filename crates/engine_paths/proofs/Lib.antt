-- What the calls on members do to the words of a table: one lemma for each way out.
pub mod MemberCases
pub mod Cases
