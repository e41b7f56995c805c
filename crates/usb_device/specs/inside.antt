-- What no public contract cites.
pub mod Places
pub mod Sets
pub mod Reactions
pub mod Descriptions
