pub mod Faults
pub mod Following
pub mod Lumps
pub mod CacheRuns
pub mod ChannelProtocol
pub mod Actors
