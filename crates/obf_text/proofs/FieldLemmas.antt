-- A piece is a field exactly where the reader finds one.
use Rattle.std.proofs.Common.{◌≡◌, ℕ, ℤ, ◌-◌, ◌<◌, ◌==◌, Bool, true, false, cond, List, [], ◌∷◌, ◌++◌, length, take}
use Rattle.std.proofs.Common.{refl, sym, ◌∙◌, ap, arith, get_or, Option, Some, None}
use Rattle.std.specs.List.{position_or_len}
use Rattle.std.proofs.lemmas.Bool.{eqb-true}
use Rattle.std.proofs.lemmas.Option.{none-some, same_Some}
use Rattle.std.proofs.lemmas.Grind.{common_steps}
use Rattle.std.proofs.lemmas.List.{append_assoc}
use Rattle.obf_text.specs.Bytes.{is_blank, is_content}
use Rattle.obf_text.specs.Fields.{Field, IsField, IsMoveText, IsNoField, IsScoreText, field_by, field_of, field_of_text, move_of, score_of_text, without_blanks}
use Rattle.obf_text.specs.declared.entries.ListedMove.{ListedMove}
use Rattle.obf_text.proofs.Fronts.{Stops}
use Rattle.obf_text.proofs.TrimLemmas.{back_blank, dropped_behind, front_blank, trimmed_is, trimmed_whole}
use Rattle.obf_text.proofs.ScoreLemmas.{number_last, score_from, score_is}
use Rattle.obf_text.proofs.MoveLemmas.{IsRead, move_from, move_is}

text_is : (move score : List ℕ) (f : Field) → IsMoveText move f.0 → IsScoreText score f.1 → field_of_text (move ++ 58 ∷ score) ≡ Some f
text_is move score f m s =
    let t = move_is move f.0 m in
    rw t.whole (rw (t.reads, score_is score f.1 s) refl)

both_from : (m : Option ListedMove) (s : Option ℤ) (f : Field) → field_by m s ≡ Some f → (m ≡ Some f.0) × (s ≡ Some f.1)
both_from None s f h = absurd (none-some f h)
both_from (Some m) None f h = absurd (none-some f h)
both_from (Some m) (Some s) f h = let e = same_Some (m, s) f h in (ap (λ p. Some p.0) e, ap (λ p. Some p.1) e)

-- a text that is a move, a colon and a score
pub record Parts (text : List ℕ) (f : Field) : Type 0 where
  pub move : List ℕ
  pub score : List ℕ
  pub whole : text ≡ move ++ 58 ∷ score
  pub is_move_text : IsMoveText move f.0
  pub is_score_text : IsScoreText score f.1

parts_at : (a b colon : ℕ) (score : List ℕ) (f : Field) (t : Bool) → (colon == 58) ≡ t
    → cond t (field_by (move_of a b) (score_of_text score)) None ≡ Some f → Parts (a ∷ b ∷ colon ∷ score) f
parts_at a b colon score f true e h =
    let parts = both_from (move_of a b) (score_of_text score) f h in
    record {
      move = a ∷ b ∷ [];
      score = score;
      whole = ap (λ c. a ∷ b ∷ c ∷ score) (eqb-true colon 58 e);
      is_move_text = move_from a b f.0 parts.0;
      is_score_text = score_from score f.1 parts.1;
    }
parts_at a b colon score f false e h = absurd (none-some f h)

parts_from : (text : List ℕ) (f : Field) → field_of_text text ≡ Some f → Parts text f
parts_from [] f h = absurd (none-some f h)
parts_from (a ∷ []) f h = absurd (none-some f h)
parts_from (a ∷ b ∷ []) f h = absurd (none-some f h)
parts_from (a ∷ b ∷ colon ∷ score) f h = parts_at a b colon score f (colon == 58) refl h

pub field_from : (piece : List ℕ) (f : Field) → field_of piece ≡ Some f → IsField piece f
field_from piece f h =
    let parts = parts_from (without_blanks piece) f h in
    record {
      before = take (position_or_len is_content piece) piece;
      move = parts.move;
      score = parts.score;
      after = dropped_behind piece;
      whole = trimmed_whole piece ∙ ap (λ t. take (position_or_len is_content piece) piece ++ (t ++ dropped_behind piece)) parts.whole;
      before_blank = front_blank piece;
      after_blank = back_blank piece;
      is_move_text = parts.is_move_text;
      is_score_text = parts.is_score_text;
    }

last_is : (front digits : List ℕ) → 0 < length digits → get_or (front ++ digits) (length (front ++ digits) - 1) 0 ≡ get_or digits (length digits - 1) 0
last_is front digits some = grind (arith, common_steps)

starts_in_content : (move score after : List ℕ) (m : ListedMove) → IsRead move m
    → Stops is_content ((move ++ 58 ∷ score) ++ after) × (0 < length (move ++ 58 ∷ score))
starts_in_content move score after m r = rw r.whole (rw r.content refl, omega arith)

pub field_is : (piece : List ℕ) (f : Field) → IsField piece f → field_of piece ≡ Some f
field_is piece f s =
    let start = starts_in_content s.move s.score s.after f.0 (move_is s.move f.0 s.is_move_text) in
    let number = number_last s.is_score_text.digits s.is_score_text.size s.is_score_text.number in
    let whole : s.move ++ 58 ∷ s.score ≡ (s.move ++ 58 ∷ s.is_score_text.sign) ++ s.is_score_text.digits =
    ap (λ t. s.move ++ 58 ∷ t) s.is_score_text.whole ∙ sym (append_assoc s.move (58 ∷ s.is_score_text.sign) s.is_score_text.digits) in
    let last : is_blank (get_or (s.move ++ 58 ∷ s.score) (length (s.move ++ 58 ∷ s.score) - 1) 0) ≡ false =
    ap (λ t. is_blank (get_or t (length t - 1) 0)) whole
    ∙ ap is_blank (last_is (s.move ++ 58 ∷ s.is_score_text.sign) s.is_score_text.digits number.0) ∙ number.1 in
    ap field_of s.whole
    ∙ ap field_of_text (trimmed_is s.before (s.move ++ 58 ∷ s.score) s.after s.before_blank s.after_blank start.0 start.1 last)
    ∙ text_is s.move s.score f s.is_move_text s.is_score_text

pub none_is : (piece : List ℕ) → IsNoField piece → field_of piece ≡ None
none_is piece h = none_at (field_of piece) refl
  where
    none_at : (o : Option Field) → field_of piece ≡ o → o ≡ None
    none_at None e = refl
    none_at (Some f) e = absurd (h f (field_from piece f e))

pub none_from : (piece : List ℕ) → field_of piece ≡ None → IsNoField piece
none_from piece e f h = none-some f (sym e ∙ field_is piece f h)

pub one_field : (piece : List ℕ) (f g : Field) → IsField piece f → IsField piece g → f ≡ g
one_field piece f g h k = same_Some f g (sym (field_is piece f h) ∙ field_is piece g k)
