pub mod Digits
pub mod RowLists
pub mod Tables
pub mod Halves
pub mod Masks
pub mod Odds
pub mod Undoing
