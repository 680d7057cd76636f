mod CellLaws
mod SequenceLaws
mod StretchLaws
mod Tickets
