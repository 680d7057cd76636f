pub mod CheckLemmas
pub mod FoldingLemmas
pub mod ListLemmas
pub mod StreamLemmas
