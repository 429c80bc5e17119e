-- What each export returns.
pub mod Calls
pub mod Cells
pub mod Codes
pub mod Details
pub mod Planning
pub mod Reply
pub mod Shares
pub mod Status
pub mod Traces
