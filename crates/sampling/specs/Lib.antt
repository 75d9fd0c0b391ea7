pub mod Flat
pub mod Lines
pub mod Sampled
