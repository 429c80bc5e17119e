pub mod Groups
pub mod Weights
pub mod Written
pub mod LastGroup
pub mod Shortest
pub mod OnTheWay
