pub mod Finding
pub mod Filing
