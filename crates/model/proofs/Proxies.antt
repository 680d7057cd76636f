pub mod AgreeingReplies
pub mod Beginning
pub mod Finishing
pub mod Routings
