pub mod Columns
pub mod Counters
pub mod HalveRecord
pub mod Laws
pub mod Sketch
pub mod TouchRecord
