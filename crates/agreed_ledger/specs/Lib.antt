-- The definitions, in reading order.

-- the cells of a ledger by their names, and when facts are about them
pub mod Cells
-- what the sequencer keeps, each refusal in order, and what its calls do
pub mod Sequencing
-- numbers and names
pub mod Refusals
