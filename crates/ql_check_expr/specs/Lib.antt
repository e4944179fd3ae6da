pub mod Groups
pub mod Gives
pub mod Names
pub mod Forms
