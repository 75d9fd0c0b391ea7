pub mod Words
pub mod Evaluation
