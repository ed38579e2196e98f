pub mod Advisories
pub mod Answers
