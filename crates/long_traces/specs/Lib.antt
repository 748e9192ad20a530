pub mod Feed
pub mod Footprint
