pub mod Enclosed
pub mod Functions
pub mod Lists
pub mod Members
pub mod Nests
pub mod Levels
pub mod Predicates
pub mod Selects
