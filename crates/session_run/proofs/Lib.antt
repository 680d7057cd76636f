pub mod TurnsScriptLemmas
pub mod LineLemmas
pub mod AnswerLemmas
pub mod ShowLemmas
pub mod RunLemmas
pub mod ShapeLemmas
