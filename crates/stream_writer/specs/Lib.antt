pub mod Writing
pub mod Encoding
