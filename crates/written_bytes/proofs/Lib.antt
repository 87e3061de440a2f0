-- Lemmas about what is written by several writes.
pub mod WrittenParts
