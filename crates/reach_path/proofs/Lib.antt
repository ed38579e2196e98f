pub mod ChainLemmas
pub mod CountLemmas
pub mod SearchLemmas
pub mod LastLemmas
pub mod NumberLemmas
pub mod PathLemmas
pub mod RouteLemmas
