pub mod Choices
pub mod Numbers
pub mod Options
pub mod Program
pub mod PolicyWords
pub mod Values
pub mod ParseResult
pub mod Accepted
