pub mod Acknowledged
pub mod Answers
pub mod Growth
pub mod Judged
pub mod Offers
pub mod Remembered
pub mod RequestRules
pub mod Requests
