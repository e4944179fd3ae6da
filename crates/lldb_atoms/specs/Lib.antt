pub mod Numbers
pub mod Heads
pub mod Blocks
pub mod Rows
pub mod Lists
pub mod Sound
pub mod Laws
