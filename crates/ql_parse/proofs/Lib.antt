pub mod ScriptLemmas
pub mod DispatchLemmas
pub mod StatementLemmas
pub mod Outcomes
