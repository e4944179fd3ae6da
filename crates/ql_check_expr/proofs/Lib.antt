pub mod Prefixes
pub mod Turns
pub mod Stops
pub mod Ids
pub mod Places
