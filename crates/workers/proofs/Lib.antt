mod AskLemmas
mod DeskLemmas
mod EdgeCases
mod GivenUpLemmas
mod RefusedLemmas
mod WorkerLemmas
