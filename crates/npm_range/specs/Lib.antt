pub mod Conditions
pub mod Grammar
pub mod Faults
