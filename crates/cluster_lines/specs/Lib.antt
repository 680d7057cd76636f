-- The definitions, in reading order.

-- the lines of a proxy's metadata and of asked keys
pub mod MetadataLines
