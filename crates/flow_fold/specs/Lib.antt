pub mod Folds
pub mod Pairs
pub mod Summaries
