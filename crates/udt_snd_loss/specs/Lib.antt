pub mod Lost
pub mod Inside
pub mod Plain
