pub mod Numbers
pub mod Lines
pub mod Output
pub mod Characters
pub mod HexDigits
pub mod Written
pub mod Shown
pub mod inside
