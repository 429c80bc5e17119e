-- Why the code meets its contracts, and the laws of both checks.
pub mod Below
pub mod Xor
pub mod Bits
pub mod Division
pub mod Fold
pub mod Octets
pub mod Factors
pub mod Trinomial
pub mod Parity
pub mod Check
pub mod Remains
pub mod Limbs
