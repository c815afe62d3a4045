mod ListedOffsets
mod FirstGap
mod Blocks
mod Expected
mod Given
