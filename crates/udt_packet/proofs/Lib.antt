pub mod RangeWords
pub mod RangeBytes
pub mod Refusals
pub mod TwoPuts
pub mod Spellings
pub mod ReadRanges
