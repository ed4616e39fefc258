-- Lemmas that the code cites.
pub mod Reads
