pub mod SelectLemmas
pub mod PredicateLemmas
pub mod CallLemmas
pub mod PrimaryLemmas
pub mod ChainLemmas
