pub mod Findings
pub mod Laws
pub mod Logs
pub mod Marks
pub mod Reads
pub mod Told
pub mod Passes
pub mod Met
