pub mod Copy
pub mod JournalSize
