pub mod Generating
pub mod Remaindering
