pub mod Later
pub mod ScriptFaults
pub mod ScriptLaws
pub mod StatementParts
pub mod StatementLists
