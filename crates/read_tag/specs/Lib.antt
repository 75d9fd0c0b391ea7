pub mod Within
pub mod WithinLaws
pub mod Text
pub mod TextLaws
