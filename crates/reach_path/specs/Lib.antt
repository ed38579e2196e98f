pub mod Chains
pub mod Graphs
pub mod Lasts
pub mod Levels
pub mod Numbers
pub mod Reached
pub mod Search
