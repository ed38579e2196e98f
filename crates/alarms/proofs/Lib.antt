pub mod AddsLemmas
pub mod PackageLemmas
pub mod SearchLemmas
pub mod SortLemmas
