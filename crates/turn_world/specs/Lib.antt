-- The definitions, in reading order.

-- an event, an answer and a refusal, as the model's; numbers and names
pub mod Events
-- what an event returns, and what a run has done
pub mod Steps
-- what the calls of a proxy or a resolver in its list do
pub mod Parts
-- what is kept of the requests that a proxy sent
pub mod KeptRequests
-- what the type keeps
pub mod Kept
-- what is left to do, and a call that carries it out
pub mod Ending
