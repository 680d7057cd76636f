pub mod ReplyRows
