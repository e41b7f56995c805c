-- What no public contract cites.
pub mod Reading
pub mod Stepping
pub mod Holding
pub mod Trees
