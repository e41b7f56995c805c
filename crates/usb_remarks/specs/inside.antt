pub mod Coming
pub mod Walking
