pub mod Correct
pub mod BlockRead
pub mod Refusals
