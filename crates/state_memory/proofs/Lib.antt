pub mod Courses
pub mod JudgedRequests
pub mod KeptLaws
pub mod OfferedRequests
pub mod ReplyPlaces
pub mod RowLaws
