-- What the contracts cite.
pub mod Steps
