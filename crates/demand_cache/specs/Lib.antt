pub mod DemandPolicy
pub mod QueueRow
pub mod DemandQueues
pub mod DemandCache
pub mod Theorems
pub mod NarrowKeys
pub mod Names
pub mod Renaming
