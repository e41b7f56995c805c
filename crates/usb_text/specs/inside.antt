pub mod Pages
pub mod Units
