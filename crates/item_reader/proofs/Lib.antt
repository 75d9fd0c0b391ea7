pub mod WordParts
pub mod ItemParts
