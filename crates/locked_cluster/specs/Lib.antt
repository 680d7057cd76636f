-- The definitions, in reading order.

-- columns of verdict cells that are kept together
pub mod Columns
-- the requests for a record that a proxy began, with the records up to it
pub mod Begun
-- the replies to a record by which its proxy may finish it
pub mod Ready
-- a finished batch and a routing, with the records and cells that they speak of
pub mod Answers
-- what a proxy's lock keeps, and what beginning and finishing do to it
pub mod Proxies
-- what two proxies that meet hold alike
pub mod Meetings
-- what an audit and a confirmation find
pub mod Audits
-- what the project promises of the metadata of proxies
pub mod Headline
-- what a commit does
pub mod Commits
