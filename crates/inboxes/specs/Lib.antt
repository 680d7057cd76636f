-- The definitions, in reading order.

-- the views that a pass may have
pub mod Views
-- what contracts see of a message
pub mod MessageViews
-- the rule of an inbox
pub mod Delivers
-- which channel an end and a pass belong to
pub mod Places
-- the ends of inboxes
pub mod Ends
-- what a proxy sends through its ends
pub mod Sending
-- edge cases of an ended sender
pub mod Edges
-- how many messages were sent and taken
pub mod Counts
-- inboxes without names
pub mod Blanks
-- the refusal's number and name
pub mod Refusals
