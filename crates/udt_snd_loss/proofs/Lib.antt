pub mod RangeLemmas
pub mod PlainLemmas
