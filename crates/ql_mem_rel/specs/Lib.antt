pub mod Formed
pub mod Kept
pub mod Pieces
pub mod PlainDbs
pub mod Places
pub mod RelLaws
