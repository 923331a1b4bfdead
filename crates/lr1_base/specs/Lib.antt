pub mod bits
pub mod hash_index
pub mod item
pub mod le_words
pub mod lookahead
pub mod numerals
pub mod repr
pub mod words
