pub mod Names
pub mod Lists
pub mod Valid
pub mod Turns
pub mod Fairness
