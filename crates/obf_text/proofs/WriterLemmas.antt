-- The bytes of a writer after several writes.
use Rattle.std.proofs.Common.{ℕ, List, [], ◌++◌, Option}
use Rattle.std.proofs.KnownBytes.{Appends-nil, Appends-trans}
use Rattle.std.specs.Io.KnownBytes.{Appends}

-- the next bytes complete the bytes that were to be written
pub record Completes (old now : Option (List ℕ)) (rest all : List ℕ) : Type 0 where
  pub whole : (end : Option (List ℕ)) → Appends now end rest → Appends old end all

pub completes_start : (old : Option (List ℕ)) (all : List ℕ) → Completes old old all all
completes_start old all = record { whole = λ end h. h }

pub completes_more : (old now next : Option (List ℕ)) (piece rest all : List ℕ) → Completes old now (piece ++ rest) all
    → Appends now next piece → Completes old next rest all
completes_more old now next piece rest all h w = record { whole = λ end k. h.whole end (Appends-trans now next end piece rest w k) }

pub completes_end : (old now : Option (List ℕ)) (all : List ℕ) → Completes old now [] all → Appends old now all
completes_end old now all h = h.whole now (Appends-nil now)
