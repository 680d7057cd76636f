-- The definitions, in reading order.

-- what a worker answers
pub mod Answers
-- what a resolver answers to the requests that its worker offers
pub mod Refusing
-- what a worker keeps of the requests that it took
pub mod Desks
-- what a worker serves of the messages that it took
pub mod Workers
-- edge cases of a worker that has ended
pub mod Edges
-- what a proxy's inboxes send, take up and refuse
pub mod Asking
