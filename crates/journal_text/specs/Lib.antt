pub mod Table
pub mod LineGrammar
pub mod Journal
pub mod Faults
pub mod ReadFaults
pub mod FaultText
