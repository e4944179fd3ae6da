pub mod Found
pub mod Outputs
pub mod Inserts
pub mod Changes
pub mod NameSets
