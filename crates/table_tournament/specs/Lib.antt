pub mod KeyedWinner
pub mod Replaying
pub mod SlotWinner
pub mod Next
