pub mod CodeAnswers
pub mod CodeLines
