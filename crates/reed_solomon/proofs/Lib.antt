pub mod Reading
pub mod Clean
pub mod Judging
