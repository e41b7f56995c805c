-- What no public contract cites.
pub mod Sound
pub mod Places
pub mod Reads
