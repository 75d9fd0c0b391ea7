pub mod AtTheLimit
pub mod DamagedTag
pub mod Exactness
pub mod ReadsBack
pub mod Undamaged
