-- What a writer got of the bytes that are written to it.
use Rattle.std.specs.Prelude.{◌≡◌, ◌++◌, ℕ, List, Option}
use Rattle.std.specs.Io.KnownBytes.{Appends}

-- a writer's known bytes grow by a front of `all`, of which `rest` is left
pub record WritesBefore (old now : Option (List ℕ)) (rest all : List ℕ) : Type 0 where
  pub done : List ℕ
  pub whole : all ≡ done ++ rest
  pub written : Appends old now done

-- a writer's known bytes grow by a front of `bytes`
pub record AppendsFront (old new : Option (List ℕ)) (bytes : List ℕ) : Type 0 where
  pub front : List ℕ
  pub rest : List ℕ
  pub whole : bytes ≡ front ++ rest
  pub written : Appends old new front
