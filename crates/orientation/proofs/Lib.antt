pub mod FamilyLaws
pub mod Ranges
