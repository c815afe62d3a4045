mod CountLemmas
mod QuietLemmas
mod ItemLemmas
mod HeadlineLemmas
pub mod LegalLemmas
pub mod ConnectLemmas
