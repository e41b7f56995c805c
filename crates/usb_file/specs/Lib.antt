pub mod Completed
pub mod WithoutStrings
pub mod inside
