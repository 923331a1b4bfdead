pub mod Grammar
pub mod Fed
pub mod Rest
