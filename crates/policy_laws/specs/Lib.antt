pub mod Strategy
pub mod Optimality
pub mod Theorems
pub mod Scans
pub mod Renaming
