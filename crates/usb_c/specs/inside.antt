pub mod Refusals
pub mod Taking
pub mod Owning
