-- What each call on the words of a lent table must meet.
pub mod Contract
pub mod Timed
pub mod Input
