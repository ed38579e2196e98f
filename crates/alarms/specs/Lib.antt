pub mod Affected
pub mod Alarms
pub mod Packages
pub mod Searching
pub mod Versions
