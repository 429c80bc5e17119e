-- They carry it.
pub mod Kept
pub mod Marks
pub mod Spaced
pub mod Origins
pub mod OutOfRate
pub mod Addresses
pub mod WrittenCells
pub mod ReservedBit
pub mod Forms
pub mod Changes
pub mod BeforeFeedback
pub mod Ported
