-- What no public contract cites.
pub mod Sound
pub mod Running
pub mod Script
pub mod Laws
pub mod Image
pub mod Following
pub mod Described
pub mod Seeing
pub mod Addresses
