pub mod Picture
pub mod PictureLaws
pub mod Examples
