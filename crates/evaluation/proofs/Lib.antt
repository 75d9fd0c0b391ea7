pub mod Elements
pub mod Evaluating
pub mod Placing
pub mod Folding
pub mod Classes
pub mod Adding
pub mod Direct
pub mod Clearing
mod Dividing
pub mod Parts
