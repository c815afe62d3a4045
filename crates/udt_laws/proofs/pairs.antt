-- Two sockets that were made as a pair.
pub mod NamedIsBelow
pub mod PairPrefix
pub mod PairIsLawful
pub mod PairIsHonest
