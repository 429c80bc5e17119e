-- What the RM cells carry that a connection receives and sends.
pub mod Marks
pub mod Origins
pub mod Spaced
pub mod OutOfRate
pub mod Addresses
pub mod ReservedBit
pub mod Forms
pub mod Changes
pub mod BeforeFeedback
pub mod Ported
