-- The scores of a position can be written, so that the line that is written for it is read back.
use Rattle.std.proofs.Common.{◌≡◌, ℕ, ◌<◌, ◌≤◌, neg_ℤ}
use Rattle.std.proofs.Common.{List, [], ◌∷◌, length, sym, subst, inl, inr}
use Rattle.std.proofs.Common.{arith}
use Rattle.std.specs.Prelude.{nat_abs}
use Rattle.std.specs.List.{AllByRecursion}
use Rattle.std.proofs.lemmas.Bool.{cases_Bool}
use Rattle.std.proofs.lemmas.List.Elements.{recursion_from_All}
use Rattle.othello_rules.specs.declared.scoring.Scoring.{Scoring}
use Rattle.othello_rules.specs.Rules.{GridView, pass, play}
use Rattle.othello_rules.specs.Value.{can_move, value}
use Rattle.othello_rules.proofs.CountLaws.{length-play}
use Rattle.othello_rules.proofs.RangeLaws.{value-IsScore}
use Rattle.obf_text.specs.Fields.{Field}
use Rattle.obf_text.proofs.WrittenFields.{score_size}
use Rattle.obf_text.specs.Written.{AreWritable, IsWritable}
use Rattle.move_scores.specs.Scores.{move_scores, score_fields, scored}
use Rattle.move_scores.proofs.EitherSide.{of_move, of_over, of_pass}
use Rattle.move_scores.proofs.Orders.{each_score}
use Rattle.move_scores.proofs.ScoreLaws.{negated}

all_writable : (fields : List Field) → AllByRecursion IsWritable fields → AreWritable fields
all_writable [] h = tt
all_writable (f ∷ fields) h = (h.0, all_writable fields h.1)

module _ (g : Scoring) (P : GridView) (whole : length P.cells ≡ 64) where
  own_value : nat_abs (value g P) ≤ 64
  own_value = score_size (value g P) (value-IsScore g P (omega (arith, whole)))

  each : (q : ℕ) → q < 64 → IsWritable (scored g P q)
  each q h =
      let long : length (play P q).cells ≡ length P.cells = length-play P q in (
        h,
        score_size (neg_ℤ (value g (play P q)))
            (negated (value g (play P q))
            (value-IsScore g (play P q) (omega (arith, whole, long)))),
      )

  pub scores_writable : AreWritable (score_fields g P)
  scores_writable =
      elim (cases_Bool (can_move P)) [
        | inl h ↦
            subst AreWritable (sym (of_move g P h))
            (all_writable (move_scores g P)
            (recursion_from_All IsWritable (move_scores g P) (each_score IsWritable g P each)))
        | inr h ↦
            elim (cases_Bool (can_move (pass P))) [
              | inl k ↦ subst AreWritable (sym (of_pass g P h k)) ((tt, own_value), tt)
              | inr k ↦ subst AreWritable (sym (of_over g P h k)) ((tt, own_value), tt)
            ]
      ]
