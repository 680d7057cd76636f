-- The definitions, in reading order.

-- what `offer` promises, over every list of requests that the resolver stands for
pub mod Answers
-- what is kept, in the model's words
pub mod Kept
-- lists in the order of their versions
pub mod Order
