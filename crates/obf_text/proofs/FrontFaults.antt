-- A fault at a byte of a line is that of each longer line.
use Rattle.std.proofs.Common.{◌≡◌, ℕ, ◌<◌, ◌≤◌, List, [], ◌∷◌, ◌++◌, length, ap, sym, subst, ◌∙◌, arith, append_assoc}
use Rattle.std.proofs.lemmas.Grind.{common_steps}
use Rattle.obf_text.specs.Obf.{Faulty, HasBadCell, HasBadSide, IsAtByte, IsNoSide, Meaning, Says, item_of}
use Rattle.obf_text.specs.declared.line_fault.LineFault.{LineFault}
use Rattle.obf_text.specs.declared.line_fault.LineFault.TheVariants.{Short, BadCell, BadSide, Memory}
use Rattle.obf_text.proofs.OnlyMeaning.{says_only}
use Rattle.obf_text.proofs.SomeMeaning.{says_item}

cell_stays : (line more : List ℕ) (column : ℕ) → HasBadCell line column → HasBadCell (line ++ more) column
cell_stays line more column h =
    record {
      blanks = h.blanks;
      cells = h.cells;
      byte = h.byte;
      more = h.more ++ more;
      whole = ap (λ xs. xs ++ more) h.whole ∙ (append_assoc h.blanks (h.cells ++ h.byte ∷ h.more) more
          ∙ ap (λ xs. h.blanks ++ xs) (append_assoc h.cells (h.byte ∷ h.more) more));
      blank = h.blank;
      spelled = h.spelled;
      few = h.few;
      bad = h.bad;
      starts = h.starts;
      place = h.place;
    }

-- bytes in the place of the side, further bytes behind them
no_side_stays : (rest more : List ℕ) → 0 < length rest → IsNoSide rest → IsNoSide (rest ++ more)
no_side_stays [] more some h = absurd (omega arith)
no_side_stays (b ∷ rest) more some h = h

side_stays : (line more : List ℕ) (column : ℕ) → HasBadSide line column → column ≤ length line → HasBadSide (line ++ more) column
side_stays line more column h within =
    let l = ap length h.whole in
    let p = h.place in
    let a = h.all in
    let some : 0 < length h.rest = grind (arith, common_steps, l, p, a, within) in
    record {
      blanks = h.blanks;
      cells = h.cells;
      gap = h.gap;
      rest = h.rest ++ more;
      whole = ap (λ xs. xs ++ more) h.whole ∙ (append_assoc h.blanks (h.cells ++ (h.gap ++ h.rest)) more
          ∙ (ap (λ xs. h.blanks ++ xs) (append_assoc h.cells (h.gap ++ h.rest) more)
          ∙ ap (λ xs. h.blanks ++ (h.cells ++ xs)) (append_assoc h.gap h.rest more)));
      blank = h.blank;
      spelled = h.spelled;
      all = h.all;
      gap_blank = h.gap_blank;
      bad = no_side_stays h.rest more some h.bad;
      place = h.place;
    }

pub fault_stays : (line more : List ℕ) (fault : LineFault) → item_of line ≡ Faulty fault → IsAtByte line fault → item_of (line ++ more) ≡ Faulty fault
fault_stays line more (BadCell column) e at =
    let here : HasBadCell line column = subst (λ (m : Meaning). Says line m) e (says_item line) in
    sym (says_only (line ++ more) (Faulty (BadCell column)) (cell_stays line more column here))
fault_stays line more (BadSide column) e at =
    let here : HasBadSide line column = subst (λ (m : Meaning). Says line m) e (says_item line) in
    sym (says_only (line ++ more) (Faulty (BadSide column)) (side_stays line more column here at))
fault_stays line more (Short n) e at = absurd at
fault_stays line more Memory e at = absurd at
