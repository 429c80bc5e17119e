-- What the search for a member and its path finds.
pub mod Member
