-- What no public contract cites.
pub mod Walk
pub mod Interfaces
pub mod Addresses
pub mod Reports
pub mod Ends
