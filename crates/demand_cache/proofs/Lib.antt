pub mod Keeping
pub mod Engine
pub mod Accesses
mod KeyRows
pub mod RenamedMachines
pub mod RenamedQueues
pub mod RenamedPlans
pub mod RenamedDemandCache
