-- What the contracts cite.
pub mod Numbers
