pub mod Chains
pub mod Pools
pub mod Sets
pub mod Tables
pub mod Windows
