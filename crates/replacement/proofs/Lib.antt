pub mod Shape
pub mod Carrying
pub mod Planned
pub mod Leaving
pub mod Counting
pub mod Balance
pub mod Residents
