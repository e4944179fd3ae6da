pub mod Promises
pub mod NewNames
pub mod Behind
mod FieldPlaces
mod WholePlans
