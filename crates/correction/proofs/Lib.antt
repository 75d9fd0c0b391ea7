pub mod Sequences
pub mod Combining
pub mod Turn
pub mod Rooting
pub mod Gathering
pub mod Dividing
pub mod Correcting
pub mod Settling
pub mod Acceptance
pub mod Coefficients
mod Counting
