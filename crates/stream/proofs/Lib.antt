pub mod CodeTables
pub mod PartLaws
pub mod Trips
pub mod EntryTests
