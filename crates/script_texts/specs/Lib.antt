-- The definitions, in reading order.

-- what a text in memory is, and where it is placed
pub mod Texts
-- what follows of them
pub mod Laws
