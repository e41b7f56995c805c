pub mod Named
pub mod Classes
pub mod Terminals
pub mod Bits
pub mod Rows
pub mod Shown
