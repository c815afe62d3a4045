pub mod Story
pub mod History
pub mod Rule
pub mod Kinds
pub mod Lending
pub mod Words
