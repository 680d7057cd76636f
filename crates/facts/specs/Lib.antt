-- a stretch, a part of it, its values from a row on, and when two agree
pub mod Stretches
pub mod Unsets
