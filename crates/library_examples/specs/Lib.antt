pub mod ConcurrentRun
pub mod IntervalHits
pub mod LogLines
pub mod LogTurn
pub mod Residents
