-- What the contracts cite.
pub mod Limited
