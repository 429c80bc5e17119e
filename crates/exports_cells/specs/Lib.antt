-- What exported calls take in and write.
pub mod Taken
pub mod Written
pub mod Carried
pub mod Heard
pub mod Turned
pub mod Marks
pub mod Spaced
pub mod OutOfRateAlone
pub mod Addresses
pub mod Forward
pub mod Limited
