pub mod Turning
pub mod WorkerLists
pub mod Collecting
pub mod RunResults
pub mod Freeing
