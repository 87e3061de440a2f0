-- A text whose first bytes are whole lines has their lines and then those of the rest.
use Rattle.std.proofs.Math.Seq.{take-suc}
use Rattle.std.proofs.Common.{◌≡◌, ◌==◌, ℕ, suc, ◌-◌, ◌<◌, ◌≤◌, Bool, true, false, cond, inl, inr, List, [], ◌∷◌, ◌++◌}
use Rattle.std.proofs.Common.{length, map, take, drop, get_or, refl, sym, ap, ◌∙◌, arith}
use Rattle.std.specs.List.{slice_split, onto_first}
use Rattle.std.specs.Str.Lines.{strip_carriage_return}
use Rattle.std.proofs.lemmas.List.{append_assoc, append-nil, drop_all, map-append, take-append-drop, take_all}
use Rattle.obf_text.specs.LineText.{lines_of, without_empty_last}
use Rattle.obf_text.proofs.LineLemmas.{has_first_part, keeps_first}
use Rattle.list_printer.specs.Chunks.{EndsLine}

abbrev is_end : ℕ → Bool
is_end b = b == 10

onto_both : (x : ℕ) (parts more : List (List ℕ)) (part : List ℕ) (left : List (List ℕ))
    → parts ≡ part ∷ left → onto_first x (parts ++ more) ≡ onto_first x parts ++ more
onto_both x parts more part left e = rw e refl

split_both : (a b : List ℕ)
    → slice_split is_end (a ++ 10 ∷ b) ≡ slice_split is_end a ++ slice_split is_end b
split_both [] b = refl
split_both (x ∷ a) b =
    let has = has_first_part is_end a in
    let left = slice_split is_end a in
    let right = slice_split is_end b in
    let all = slice_split is_end (a ++ 10 ∷ b) in
    elim (is_end x) as (λ t. cond t ([] ∷ all) (onto_first x all)
    ≡ cond t ([] ∷ left) (onto_first x left) ++ right) [
      | true ↦ ap (λ parts. [] ∷ parts) (split_both a b)
      | false ↦ ap (onto_first x) (split_both a b) ∙ onto_both x left right has.0 has.1 has.2
    ]

last_both : (parts : List (List ℕ)) (part : List ℕ) (more : List (List ℕ))
    → without_empty_last (parts ++ part ∷ more) ≡ parts ++ without_empty_last (part ∷ more)
last_both [] part more = refl
last_both (x ∷ []) part more = keeps_first x (part ∷ more) part more refl
last_both (x ∷ y ∷ parts) part more =
    keeps_first x (y ∷ (parts ++ part ∷ more)) y (parts ++ part ∷ more) refl
    ∙ ap (λ l. x ∷ l) (last_both (y ∷ parts) part more)

-- the parts of a text behind a line's end are those of the two texts
lines_cut : (a b : List ℕ) → lines_of (a ++ 10 ∷ b)
    ≡ map strip_carriage_return (slice_split is_end a) ++ lines_of b
lines_cut a b =
    let has = has_first_part is_end b in
    let part = has.0 in
    let more = has.1 in
    let left = slice_split is_end a in
    let one : without_empty_last (left ++ slice_split is_end b)
    ≡ left ++ without_empty_last (slice_split is_end b) =
    rw has.2 (last_both left part more) in
    ap (λ parts. map strip_carriage_return (without_empty_last parts)) (split_both a b)
    ∙ ap (map strip_carriage_return) one
    ∙ map-append strip_carriage_return left (without_empty_last (slice_split is_end b))

lines_behind : (a b : List ℕ) → lines_of ((a ++ 10 ∷ []) ++ b)
    ≡ lines_of (a ++ 10 ∷ []) ++ lines_of b
lines_behind a b =
    ap lines_of (append_assoc a (10 ∷ []) b) ∙ lines_cut a b
    ∙ ap (λ l. l ++ lines_of b) (sym (lines_cut a [] ∙ append-nil _))

whole : (text : List ℕ) (end : ℕ) → end ≡ length text
    → lines_of text ≡ lines_of (take end text) ++ lines_of (drop end text)
whole text end all =
    let front : take end text ≡ text = take_all end text (omega arith) in
    let rest : drop end text ≡ [] = drop_all end text (omega arith) in
    sym (append-nil (lines_of text))
    ∙ ap (λ l. lines_of text ++ lines_of l) (sym rest)
    ∙ ap (λ l. lines_of l ++ lines_of (drop end text)) (sym front)

line_ended : (text : List ℕ) (end : ℕ) → end ≤ length text → 0 < end → get_or text (end - 1) 0 ≡ 10
    → lines_of text ≡ lines_of (take end text) ++ lines_of (drop end text)
line_ended text end within some at =
    let to : suc (end - 1) ≡ end = omega arith in
    let less : end - 1 < length text = omega arith in
    let front : take end text ≡ take (end - 1) text ++ 10 ∷ [] =
    ap (λ n. take n text) (sym to) ∙ take-suc text (end - 1) 0 less
    ∙ ap (λ b. take (end - 1) text ++ b ∷ []) at in
    ap lines_of (sym (take-append-drop end text))
    ∙ ap (λ l. lines_of (l ++ drop end text)) front
    ∙ lines_behind (take (end - 1) text) (drop end text)
    ∙ ap (λ l. lines_of l ++ lines_of (drop end text)) (sym front)

-- the first bytes of a text are whole lines
pub ends_lines : (text : List ℕ) (end : ℕ) → EndsLine text end
    → lines_of text ≡ lines_of (take end text) ++ lines_of (drop end text)
ends_lines text end h =
    elim h.ended [ inl all ↦ whole text end all | inr at ↦ line_ended text end h.within at.0 at.1 ]
