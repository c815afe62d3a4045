pub mod Powers
pub mod SpareBits
pub mod Speed
