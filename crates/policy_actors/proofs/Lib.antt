pub mod CacheRuns
pub mod Following
pub mod Handles
pub mod Lumps
pub mod Moves
pub mod Pieces
pub mod ReadTo
