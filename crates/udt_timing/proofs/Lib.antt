mod Counts
pub mod Medians
pub mod LastOnes
pub mod Rates
