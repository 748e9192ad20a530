mod Alike
mod Copies
mod JournalSize
mod LineLengths
mod NodeBounds
