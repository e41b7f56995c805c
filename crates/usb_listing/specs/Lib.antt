pub mod Table
pub mod Listing
pub mod Listings
pub mod Words
pub mod Says
pub mod Order
pub mod Comments
pub mod inside
