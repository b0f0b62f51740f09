pub mod Comments
pub mod Refusals
pub mod Answers
pub mod Fronts
pub mod Names
pub mod Origins
pub mod Reading
