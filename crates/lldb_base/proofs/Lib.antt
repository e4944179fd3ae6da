pub mod Behind
pub mod ByBytes
pub mod Entries
pub mod Kept
pub mod Pieces
pub mod Puts
pub mod Stacked
