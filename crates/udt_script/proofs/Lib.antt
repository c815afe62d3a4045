mod Splits
mod HexPairs
mod PairLines
