pub mod Copied
pub mod Gathered
pub mod Stacks
pub mod Ended
