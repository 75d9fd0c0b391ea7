pub mod Stages
pub mod FailedMode
pub mod Said
pub mod Correcting
pub mod LawfulWords
