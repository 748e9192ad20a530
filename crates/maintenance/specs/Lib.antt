pub mod EmptyShell
pub mod NodeTable
pub mod EvictionPlan
pub mod Performing
