pub mod Proposing
pub mod Solving
