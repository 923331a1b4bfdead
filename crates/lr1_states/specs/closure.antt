pub mod Grammar
pub mod Fed
