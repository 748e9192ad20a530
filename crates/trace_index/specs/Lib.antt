pub mod Uses
pub mod KeyCells
pub mod KeyNumbers
pub mod KeyPlaces
pub mod PackedKeys
pub mod TraceNumbers
pub mod Footprint
pub mod FootprintCounter
