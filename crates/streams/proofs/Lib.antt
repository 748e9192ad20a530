pub mod Tallies
pub mod Cuts
pub mod Feeds
pub mod Numbers
pub mod Parts
pub mod Results
pub mod Trims
pub mod Waiting
