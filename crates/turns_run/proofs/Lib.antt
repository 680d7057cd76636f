pub mod AnswerLemmas
pub mod EventLemmas
pub mod FinishLemmas
pub mod OrderLemmas
pub mod CarryingOutLemmas
pub mod StreamLemmas
pub mod WorldLemmas
