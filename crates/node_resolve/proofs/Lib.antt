pub mod Any
pub mod Entering
pub mod Folders
pub mod Manifests
pub mod Picks
pub mod Searching
pub mod Texts
pub mod Walking
