use Rattle.std.proofs.Common.{◌++◌, ◌∷◌, []}
use Rattle.std.specs.Prelude.{OnOk, Result, Ok, Err}
use Rattle.std.proofs.KnownBytes.{Appends-trans}
use Rattle.othello_rules.specs.Scores.{scoring_name}
use Rattle.solved_book.specs.Books.{header, header_start}
use Rattle.solved_book.proofs.header.write_header.Goals as goal

on_ok : {T E : Type 0} (r : Result T E) (P Q : Type 0) → (P → Q) → OnOk r P → OnOk r Q
on_ok (Ok v) P Q f p = f p
on_ok (Err e) P Q f p = tt

pub returns : goal.returns
unfolding header
returns g c =
    on_ok c.write.result _ _ (λ name. Appends-trans _ _ _ header_start (scoring_name c.args.scoring ++ 10 ∷ []) c.in_ok-write_all.ensures.bytes name)
    (rw c.name-name.ensures at c.write.ensures.bytes)
