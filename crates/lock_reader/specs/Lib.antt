pub mod Lock
pub mod Owner
pub mod Places
pub mod Texts
