-- The lemmas that proofs of crates above cite, and the basis of the laws of rows.
pub mod LongLines
pub mod RuledRows
