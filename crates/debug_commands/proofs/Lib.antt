pub mod Stops
pub mod OneByte
pub mod Ahead
mod Parts
pub mod Walks
pub mod Lines
