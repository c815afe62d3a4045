pub mod Table
pub mod Given
pub mod Ranges
pub mod Laws
