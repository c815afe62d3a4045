pub mod WritingLemmas
pub mod NumberLemmas
mod Numerals
pub mod ReadingLemmas
pub mod GroupLemmas
pub mod PrintedLemmas
pub mod CallsLemmas
