-- Each line has a meaning.
use Rattle.std.proofs.Common.{◌≡◌, ◌≢◌, ℕ, ◌+◌, ◌<◌, ◌≤◌, ◌==◌, suc, Bool, true, false, List, [], ◌∷◌, ◌++◌, length}
use Rattle.std.proofs.Common.{map, take, drop, refl, sym, inl, inr, ◌∙◌, ap, arith, get_or, Option, Some, None, subst}
use Rattle.std.specs.List.{All, AllPass}
use Rattle.std.proofs.lemmas.List.{append-nil, get_or-take, length-take-le, take-append-drop}
use Rattle.std.proofs.Math.ListN.{get_or-append}
use Rattle.std.proofs.lemmas.Grind.{common_steps}
use Rattle.std.proofs.lemmas.Bool.{cases_lt, eqb-true, not-false, not-true}
use Rattle.std.proofs.lemmas.Bool.Decides.{nat_tests}
use Rattle.othello_rules.specs.declared.discs.Side.{Side}
use Rattle.obf_text.specs.Bytes.{is_blank, is_cell, is_content, is_no_cell, cell_of, side_of}
use Rattle.obf_text.specs.Fields.{fields_of, pieces_of}
use Rattle.obf_text.specs.Obf.{Meaning, Skipped, Holds, Faulty, Says, item_of}
use Rattle.obf_text.specs.declared.line_fault.LineFault.TheVariants.{Short, BadCell, BadSide}
use Rattle.obf_text.proofs.Fronts.{Stops, cut_of}
use Rattle.obf_text.proofs.ListedLemmas.{lists_computed}
use Rattle.obf_text.proofs.OnlyMeaning.{says_only}

blanks_from : (bs : List ℕ) → All (λ b. is_content b ≡ false) bs → AllPass is_blank bs
blanks_from bs h k d lt = not-false _ (h k d lt)

cells_from : (bs : List ℕ) → All (λ b. is_no_cell b ≡ false) bs → AllPass is_cell bs
cells_from bs h k d lt = not-false _ (h k d lt)

abbrev Something : List ℕ → Type 0
Something line = (meaning : Meaning) × Says line meaning

-- a line with fewer than 64 cells
part_says : (line blanks front rest : List ℕ) → line ≡ blanks ++ (front ++ rest) → AllPass is_blank blanks → AllPass is_cell front → Stops is_no_cell rest
    → 0 < length (front ++ rest) → is_blank (get_or (front ++ rest) 0 0) ≡ false → get_or (front ++ rest) 0 0 ≢ 37 → length front < 64 → Something line
part_says line blanks [] [] w h c s some nb nc few = absurd (omega arith)
part_says line blanks (x ∷ front) [] w h c s some nb nc few = (
  Faulty (Short (length (x ∷ front))),
  record {
    blanks = blanks;
    cells = x ∷ front;
    whole = w ∙ ap (λ t. blanks ++ t) (append-nil (x ∷ front));
    blank = h;
    spelled = c;
    some = omega arith;
    few = few;
    count = refl;
  },
)
part_says line blanks [] (b ∷ more) w h c s some nb nc few = (
  Faulty (BadCell (length blanks + (0 + 1))),
  record {
    blanks = blanks;
    cells = [];
    byte = b;
    more = more;
    whole = w;
    blank = h;
    spelled = c;
    few = few;
    bad = not-true _ s;
    starts = λ z. (nb, nc);
    place = refl;
  },
)
part_says line blanks (x ∷ front) (b ∷ more) w h c s some nb nc few = (
  Faulty (BadCell (length blanks + (length (x ∷ front) + 1))),
  record {
    blanks = blanks;
    cells = x ∷ front;
    byte = b;
    more = more;
    whole = w;
    blank = h;
    spelled = c;
    few = few;
    bad = not-true _ s;
    starts = λ z. absurd (let e : suc (length front) ≡ 0 = z in omega arith);
    place = refl;
  },
)

-- the bytes from the side's place on
side_says : (line blanks cells gap : List ℕ) (byte : ℕ) (rest : List ℕ) (mover : Option Side) → side_of byte ≡ mover
    → line ≡ blanks ++ (cells ++ (gap ++ byte ∷ rest)) → AllPass is_blank blanks
    → AllPass is_cell cells → length cells ≡ 64 → AllPass is_blank gap → is_content byte ≡ true → Something line
side_says line blanks cells gap byte rest None e w h c all g s = (
  Faulty (BadSide (length blanks + (64 + (length gap + 1)))),
  record {
    blanks = blanks;
    cells = cells;
    gap = gap;
    rest = byte ∷ rest;
    whole = w;
    blank = h;
    spelled = c;
    all = all;
    gap_blank = g;
    bad = (not-true _ s, e);
    place = refl;
  },
)
side_says line blanks cells gap byte rest (Some mover) e w h c all g s = (
  Holds (record { position = record { cells = map cell_of cells; mover = mover }; listed = fields_of rest }),
  record {
    blanks = blanks;
    cells = cells;
    gap = gap;
    byte = byte;
    rest = rest;
    whole = w;
    blank = h;
    spelled = c;
    all = all;
    gap_blank = g;
    board = refl;
    mover = e;
    fields = lists_computed (pieces_of rest);
  },
)

gap_says : (line blanks cells gap rest : List ℕ) → line ≡ blanks ++ (cells ++ (gap ++ rest)) → AllPass is_blank blanks
    → AllPass is_cell cells → length cells ≡ 64 → AllPass is_blank gap → Stops is_content rest → Something line
gap_says line blanks cells gap [] w h c all g s = (
  Faulty (BadSide (length blanks + (64 + (length gap + 1)))),
  record { blanks = blanks; cells = cells; gap = gap; rest = []; whole = w; blank = h; spelled = c; all = all; gap_blank = g; bad = tt; place = refl },
)
gap_says line blanks cells gap (b ∷ more) w h c all g s = side_says line blanks cells gap b more (side_of b) refl w h c all g s

-- a line with 64 cells
full_says : (line blanks rest front more : List ℕ) → line ≡ blanks ++ rest → rest ≡ front ++ more
    → AllPass is_blank blanks → AllPass is_cell front → 64 ≤ length front → Something line
full_says line blanks rest front more w e h c many =
    let long : length rest ≡ length front + length more = ap length e ∙ grind (arith, common_steps) in
    let parts : rest ≡ take 64 rest ++ drop 64 rest = sym (take-append-drop 64 rest) in
    let cut = cut_of is_content (drop 64 rest) in
    let all : length (take 64 rest) ≡ 64 = length-take-le 64 rest (omega arith) in
    let cells : AllPass is_cell (take 64 rest) = λ k d lt.
    let at : get_or (take 64 rest) k d ≡ get_or front k d =
    get_or-take 64 rest k d (omega arith) ∙ (ap (λ t. get_or t k d) e ∙ get_or-append front more d k (omega arith)) in
    rw at (c k d (omega arith)) in
    gap_says line blanks (take 64 rest) cut.front cut.rest
    (w ∙ ap (λ t. blanks ++ t) (parts ∙ ap (λ t. take 64 rest ++ t) cut.whole)) h cells all (blanks_from cut.front cut.fails) cut.stops

board_says : (line blanks rest : List ℕ) → line ≡ blanks ++ rest → AllPass is_blank blanks → 0 < length rest
    → is_blank (get_or rest 0 0) ≡ false → get_or rest 0 0 ≢ 37 → Something line
board_says line blanks rest w h some nb nc =
    let cut = cut_of is_no_cell rest in
    elim (cases_lt (length cut.front) 64) [
      | inl few ↦ part_says line blanks cut.front cut.rest (w ∙ ap (λ t. blanks ++ t) cut.whole) h (cells_from cut.front cut.fails) cut.stops
          (rw (← cut.whole) some) (rw (← cut.whole) nb) (rw (← cut.whole) nc) few
      | inr many ↦ full_says line blanks rest cut.front cut.rest w cut.whole h (cells_from cut.front cut.fails) many
    ]

content_at : (line blanks : List ℕ) (b : ℕ) (more : List ℕ) (t : Bool) → (b == 37) ≡ t → line ≡ blanks ++ b ∷ more
    → AllPass is_blank blanks → is_content b ≡ true → Something line
content_at line blanks b more true e w h s = (Skipped, record { blanks = blanks; rest = b ∷ more; whole = w; blank = h; ends = eqb-true b 37 e })
content_at line blanks b more false e w h s =
    board_says line blanks (b ∷ more) w h (omega arith) (not-true _ s) (λ is. let no : b ≡ 37 = is in grind (arith, nat_tests))

content_says : (line blanks rest : List ℕ) → line ≡ blanks ++ rest → AllPass is_blank blanks → Stops is_content rest → Something line
content_says line blanks [] w h s = (Skipped, record { blanks = blanks; rest = []; whole = w; blank = h; ends = tt })
content_says line blanks (b ∷ more) w h s = content_at line blanks b more (b == 37) refl w h s

something : (line : List ℕ) → Something line
something line = let cut = cut_of is_content line in content_says line cut.front cut.rest cut.whole (blanks_from cut.front cut.fails) cut.stops

pub says_item : (line : List ℕ) → Says line (item_of line)
says_item line = let it = something line in subst (λ (m : Meaning). Says line m) (says_only line it.0 it.1) it.1
