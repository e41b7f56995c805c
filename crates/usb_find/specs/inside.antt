pub mod Seeking
pub mod Walks
pub mod Bounds
