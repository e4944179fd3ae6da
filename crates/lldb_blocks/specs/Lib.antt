pub mod Links
pub mod Laid
pub mod Steps
pub mod Laws
pub mod Maps
