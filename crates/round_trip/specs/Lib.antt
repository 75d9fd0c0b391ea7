pub mod Changes
pub mod Placing
pub mod MadeTag
pub mod RoundTrip
pub mod Unchanged
pub mod Premises
