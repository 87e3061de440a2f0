-- Lemmas about how the printing of lists ends.
pub mod ListEndings
