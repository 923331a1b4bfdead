-- What the contracts cite.
pub mod Names
