-- What no public contract cites.
pub mod Rows
pub mod Fields
pub mod Growing
pub mod Walking
pub mod Drafts
pub mod Thinning
