pub mod GrammarExamples
pub mod PrintingExamples
pub mod PrintingEquations
pub mod ValueExamples
pub mod PartEquations
pub mod TypedBy
pub mod NoAggregates
