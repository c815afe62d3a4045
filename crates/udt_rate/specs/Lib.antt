pub mod Native
pub mod PacedStates
