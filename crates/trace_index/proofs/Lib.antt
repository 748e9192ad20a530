pub mod Uses
pub mod Passes
pub mod KeyCells
pub mod Numbers
mod Counts
