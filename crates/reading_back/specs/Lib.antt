pub mod AtTheLimit
pub mod Exactness
pub mod ReadsBack
pub mod Within
