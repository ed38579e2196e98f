pub mod Causes
pub mod Exports
pub mod Finding
pub mod Manifests
pub mod Shapes
pub mod Targets
pub mod Views
