-- How large the number in a fault can be.
use Rattle.std.proofs.Common.{◌≡◌, ℕ, ◌+◌, ◌≤◌, List, length, ap, subst, arith}
use Rattle.std.specs.Prelude.{Result, Ok, Err, IfErr}
use Rattle.std.proofs.lemmas.Grind.{common_steps}
use Rattle.obf_text.specs.Obf.{EndsShort, Faulty, IsResultFor, HasBadCell, HasBadSide, Meaning, Says, item_of, place_of}
use Rattle.obf_text.specs.declared.entries.Item.{Item}
use Rattle.obf_text.specs.declared.line_fault.LineFault.{LineFault}
use Rattle.obf_text.specs.declared.line_fault.LineFault.TheVariants.{Short, BadCell, BadSide, Memory}
use Rattle.obf_text.proofs.SomeMeaning.{says_item}

short_place : (line : List ℕ) (n : ℕ) → EndsShort line n → n ≤ length line + 1
short_place line n s = let l = ap length s.whole in let k = s.count in grind (arith, common_steps, l, k)

cell_place : (line : List ℕ) (n : ℕ) → HasBadCell line n → n ≤ length line + 1
cell_place line n s = let l = ap length s.whole in let k = s.place in grind (arith, common_steps, l, k)

side_place : (line : List ℕ) (n : ℕ) → HasBadSide line n → n ≤ length line + 1
side_place line n s = let l = ap length s.whole in let k = s.place in let a = s.all in grind (arith, common_steps, l, k, a)

says_there : (line : List ℕ) (fault : LineFault) → item_of line ≡ Faulty fault → Says line (Faulty fault)
says_there line fault e = subst (λ (m : Meaning). Says line m) e (says_item line)

pub gives_place : (line : List ℕ) (r : Result Item LineFault) → IsResultFor r (item_of line) → IfErr r (λ fault. place_of fault ≤ length line + 1)
gives_place line (Ok item) g = search
gives_place line (Err (Short n)) g = short_place line n (says_there line (Short n) g)
gives_place line (Err (BadCell n)) g = cell_place line n (says_there line (BadCell n) g)
gives_place line (Err (BadSide n)) g = side_place line n (says_there line (BadSide n) g)
gives_place line (Err Memory) g = omega arith
