pub mod Fed
pub mod Following
