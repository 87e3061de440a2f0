-- What a call of the reader returns is what the line says.
use Rattle.std.proofs.Common.{◌≡◌, ℕ, Err, inl, inr, refl, sym, ap}
use Rattle.obf_text.specs.Obf.{Entry, Faulty, IsResultFor, Holds, Meaning, Skipped, place_of}
use Rattle.obf_text.specs.declared.line_fault.LineFault.{LineFault}
use Rattle.obf_text.specs.declared.line_fault.LineFault.TheVariants.{Short, BadCell, BadSide, Memory}
use Rattle.ffosolve_c.specs.Lines.{IsOfLine}
use Rattle.ffosolve_c.specs.Refusals.{call_status, fault_refusal}

-- the entry of a meaning, and another where it has none
abbrev entry_or : Entry → Meaning → Entry
entry_or other (Holds entry) = entry
entry_or other Skipped = other
entry_or other (Faulty fault) = other

abbrev place_in : Meaning → ℕ
place_in (Holds entry) = 0
place_in Skipped = 0
place_in (Faulty fault) = place_of fault

pub same_entry : (found entry : Entry) → Holds entry ≡ Holds found → found ≡ entry
same_entry found entry same = let e : entry ≡ found = ap (entry_or found) same in sym e

pub same_place : (found fault : LineFault) → IsResultFor (Err found) (Faulty fault) → place_of found ≡ place_of fault
same_place (Short n) fault same = sym (ap place_in same)
same_place (BadCell n) fault same = sym (ap place_in same)
same_place (BadSide n) fault same = sym (ap place_in same)
same_place Memory fault none = absurd none

pub fault_of_line : (found fault : LineFault) → IsResultFor (Err found) (Faulty fault) → IsOfLine (call_status (fault_refusal found))
fault_of_line (Short n) fault same = inl refl
fault_of_line (BadCell n) fault same = inr (inl refl)
fault_of_line (BadSide n) fault same = inr (inr refl)
fault_of_line Memory fault none = absurd none
