-- What no public contract cites.
pub mod Taking
pub mod Intake
pub mod Telling
