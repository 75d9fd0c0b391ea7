pub mod Decode
pub mod Kept
pub mod DecodeLaws
