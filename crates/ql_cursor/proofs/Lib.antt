pub mod Answering
pub mod Sequences
pub mod BracketLemmas
pub mod Loops
pub mod StepLemmas
pub mod CursorLemmas
pub mod GrammarLaws
