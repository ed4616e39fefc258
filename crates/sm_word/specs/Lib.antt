pub mod Known
pub mod Word
pub mod lemmas
