-- The definitions, in reading order.

-- keys of entries, by where they stand to the keyServers keys
pub mod EntryKeys
-- the entries of the map, as the model's
pub mod MapEntries
-- which keys a row clears, and what each key has afterwards
pub mod Overwrites
-- what keyServers rows name, and their tags
pub mod CachedTags
-- entries with the same serverTag rows
pub mod SameServers
-- the table of the servers' tags, and what brings it up to date
pub mod ServerTables
-- the routes of entries, by the table of the servers' tags
pub mod Routes
-- runs of rows that are hidden
pub mod HiddenRuns
-- rows that are being applied, and can be taken back
pub mod Started
