pub mod Dealing
pub mod Found
pub mod Accepting
