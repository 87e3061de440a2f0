-- The first file that is too large, and the refusal of files.
pub mod InputFaultLemmas
