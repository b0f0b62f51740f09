pub mod CommandTexts
pub mod ReplyLines
