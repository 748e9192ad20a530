pub mod Optimal
pub mod Strategies
pub mod Beaten
pub mod Lru
pub mod Scans
pub mod RenamedSegments
pub mod RenamedQueueCache
