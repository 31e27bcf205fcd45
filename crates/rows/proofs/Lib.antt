pub mod Calls
pub mod Lists
pub mod Marks
pub mod Members
