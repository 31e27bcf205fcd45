pub mod Chains
pub mod Kept
pub mod Lexicon
pub mod Limits
