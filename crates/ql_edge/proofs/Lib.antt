pub mod Whole
pub mod Plays
pub mod Records
pub mod Machines
