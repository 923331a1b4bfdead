-- What the contracts cite.
pub mod Events
pub mod Source
pub mod Files
pub mod Meaning
pub mod Outcome
