-- The definitions, in reading order.

-- the form of a cluster's numbers, and of a move
pub mod Shapes
