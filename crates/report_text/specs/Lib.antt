pub mod Escape
pub mod Graph
pub mod Json
pub mod Reports
