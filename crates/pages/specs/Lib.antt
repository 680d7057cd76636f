-- The definitions.

-- what was printed on a page
pub mod Printing
-- what a page in memory keeps
pub mod TextPages
