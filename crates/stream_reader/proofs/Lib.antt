pub mod Passes
pub mod Storing
pub mod Filling
