mod PageLemmas
mod SessionLemmas
mod LawLemmas
