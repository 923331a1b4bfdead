pub mod Laws
pub mod WholeSearch
