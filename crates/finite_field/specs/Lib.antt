pub mod Xor
pub mod Field
pub mod ProductLaws
pub mod Generator
pub mod Tree
pub mod Tables
pub mod FieldLaws
pub mod Instance
