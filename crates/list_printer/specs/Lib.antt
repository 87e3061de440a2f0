pub mod Chunks
pub mod Output
