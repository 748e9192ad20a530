pub mod Tables
pub mod Tasks
pub mod Turning
pub mod Standing
pub mod Evicted
