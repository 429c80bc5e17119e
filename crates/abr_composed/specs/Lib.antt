pub mod EachCall
pub mod PathCalls
pub mod Planning
pub mod AllReadings
