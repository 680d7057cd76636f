pub mod LexLemmas
pub mod PlaceLemmas
pub mod NumberLemmas
pub mod StringLemmas
pub mod EscapeLemmas
