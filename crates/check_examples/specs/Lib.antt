-- Lists of calls and what comes out of them.
pub mod Witness
pub mod Unstarred
pub mod Makings
pub mod OutOfRateCalls
pub mod AddressCalls
pub mod ReservedCalls
pub mod OwnTrace
pub mod ConservedCalls
pub mod SetupCalls
pub mod Limits
pub mod Readings
pub mod PortCalls
pub mod Caps
