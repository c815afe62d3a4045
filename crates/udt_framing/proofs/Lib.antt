mod Parts
mod Headers
mod Pieces
