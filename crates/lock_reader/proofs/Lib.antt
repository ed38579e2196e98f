pub mod Prepending
pub mod Ascending
pub mod Owners
pub mod Texts
pub mod PlaceLemmas
pub mod Searching
