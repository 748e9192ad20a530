pub mod Nodes
pub mod Quiet
pub mod Settle
pub mod Outcomes
pub mod QuietWalks
pub mod QuietRuns
