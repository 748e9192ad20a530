pub mod WorkerStates
pub mod Runs
pub mod DriveFaults
pub mod Draws
pub mod Walkers
