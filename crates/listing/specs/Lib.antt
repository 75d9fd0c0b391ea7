pub mod Decimal
pub mod Line
pub mod Examples
pub mod DecimalLaws
pub mod LineLaws
pub mod Blocks
