-- The definitions, in reading order.

-- a key, the order of keys, a range, which keys it holds, and when two ranges overlap
pub mod Keys
-- how a range keeps the key at which it begins
pub mod KeptRanges
-- a number that is in the order of keys
pub mod OrderedKeys
-- the families of rows, as data: the four that the metadata keeps, and the family of server keys; and the
-- kind of any key
pub mod Families
-- what servers and tags a row value names: its encoding, and reading it from the front
pub mod Rows
-- the tags that a keyServers value lists, and the order of tags
pub mod ListedTags
-- the two forms of the value of a keyServers row: it names servers, or it lists tags
pub mod Locations
-- the first fault of a range and of a Set
pub mod Limits
-- which changes are state mutations, those that go to every proxy
pub mod Changes
-- the text of bytes, and the bytes of a text
pub mod Text
-- the numbers and names that are printed
pub mod Refusals
-- when a result is the specified value or fault, where an allocation may fail
pub mod AsSpecified
