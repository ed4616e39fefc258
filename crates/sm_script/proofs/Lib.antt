pub mod FormLemmas
pub mod WordLemmas
pub mod NumberLemmas
pub mod LineLemmas
