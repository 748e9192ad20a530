pub mod Parsed
pub mod LineLaws
pub mod Spacing
pub mod Replies
pub mod Fronts
pub mod Unique
pub mod Accepting
pub mod Written
