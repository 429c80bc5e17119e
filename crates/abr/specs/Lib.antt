-- The C interface: the contract of each export, and lists of exported calls.
pub mod Contract
pub mod Exports
