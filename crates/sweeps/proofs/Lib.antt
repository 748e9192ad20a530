pub mod LruReports
pub mod Rows
mod Counts
pub mod Cuts
mod Joined
pub mod Pieces
mod Sums
pub mod Next
pub mod Cut
pub mod Halves
pub mod Covers
pub mod Each
pub mod NumberedReports
