pub mod Sweep
pub mod Intervals
pub mod CurrentInterval
pub mod Theorems
pub mod JobRuns
pub mod Taking
pub mod Runs
