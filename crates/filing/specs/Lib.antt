pub mod Filings
pub mod Given
pub mod Joinings
