pub mod Numbers
pub mod Naming
pub mod Folds
