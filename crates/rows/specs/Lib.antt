pub mod Answers
pub mod Edits
pub mod Sets
pub mod Tables
