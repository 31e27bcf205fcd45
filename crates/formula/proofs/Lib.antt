pub mod Good
pub mod Grammar
pub mod Kept
pub mod Lays
pub mod Once
pub mod Places
pub mod Steps
pub mod Tables
