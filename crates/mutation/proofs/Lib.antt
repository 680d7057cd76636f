pub mod LimitLaws
pub mod StampedChanges
