pub mod NoItems
pub mod Runs
pub mod Unmarked
