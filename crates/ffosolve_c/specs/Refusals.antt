-- Why a call is refused, and its status. Refusals are returned in the order in which a call is tested for them.
use Rattle.std.specs.Prelude.{◌≡◌, ◌⊎◌, ℕ, ℤ, pos, All, List, length, Option, Some, None, is_some}
use Rattle.std.specs.Prelude.{option_and_then, position, slice_get, bit_and, nat_eq, nat_lt, if◌then◌else◌}
use Rattle.othello_bits.specs.Pos.{empties_of}
use Rattle.bound_table.specs.Limits.{most_entries}
use Rattle.endgame_search.specs.Limits.{most_empties}
use Rattle.ffosolve_c.specs.declared.position.FfosolvePosition.{FfosolvePosition}
use Rattle.ffosolve_c.specs.declared.call_refusal.CallRefusal.{CallRefusal}
use Rattle.ffosolve_c.specs.declared.call_refusal.CallRefusal.TheVariants.{UnknownScoring, TooManyEntries}
use Rattle.ffosolve_c.specs.declared.call_refusal.CallRefusal.TheVariants.{UnequalLengths, SharedSquare}
use Rattle.ffosolve_c.specs.declared.call_refusal.CallRefusal.TheVariants.{TooManyEmpties, NoMove, NoMemory}
use Rattle.ffosolve_c.specs.declared.call_refusal.CallRefusal.TheVariants.{Skipped, ShortBoard, BadSquare, BadSide}
use Rattle.ffosolve_c.specs.declared.call_refusal.CallRefusal.TheVariants.{UnknownSymmetry}
use Rattle.obf_text.specs.declared.line_fault.LineFault.{LineFault}
use Rattle.obf_text.specs.declared.line_fault.LineFault.TheVariants as fault
use Rattle.ffosolve_c.specs.CValues.{discs_at, numbered_scoring}

abbrev pub call_status : CallRefusal → ℤ
call_status UnknownScoring = pos 1
call_status TooManyEntries = pos 2
call_status UnequalLengths = pos 3
call_status SharedSquare = pos 4
call_status TooManyEmpties = pos 5
call_status NoMove = pos 6
call_status NoMemory = pos 7
call_status Skipped = pos 8
call_status ShortBoard = pos 9
call_status BadSquare = pos 10
call_status BadSide = pos 11
call_status UnknownSymmetry = pos 12

-- why a line with a fault is refused
abbrev pub fault_refusal : LineFault → CallRefusal
fault_refusal (fault.Short found) = ShortBoard
fault_refusal (fault.BadCell column) = BadSquare
fault_refusal (fault.BadSide column) = BadSide
fault_refusal fault.Memory = NoMemory

-- the first of two refusals, if there is one
abbrev pub first_of : Option CallRefusal → Option CallRefusal → Option CallRefusal
first_of (Some refusal) next = Some refusal
first_of None next = next

-- why no table is made: no scoring has the number, or there are too many entries
unfoldable pub table_refusal : ℕ → ℕ → Option CallRefusal
table_refusal scoring entries =
    if is_some (numbered_scoring scoring)
    then (if nat_lt most_entries entries then Some TooManyEntries else None)
    else Some UnknownScoring

-- why a position is not solved: its masks share a square, or too many squares are empty
unfoldable pub position_refusal : FfosolvePosition → Option CallRefusal
position_refusal p =
    if nat_eq (bit_and p.own p.opp) 0
    then (if nat_lt most_empties (empties_of (discs_at p)) then Some TooManyEmpties else None)
    else Some SharedSquare

-- each of the positions can be solved
abbrev pub AreSolvable : List FfosolvePosition → Type 0
AreSolvable ps = All (λ p. position_refusal p ≡ None) ps

-- why a request for one answer is refused
abbrev pub request_refusal : ℕ → ℕ → FfosolvePosition → Option CallRefusal
request_refusal scoring entries p = first_of (table_refusal scoring entries) (position_refusal p)

-- why a list of m positions and room for n answers don't fit
abbrev pub lengths_refusal : ℕ → ℕ → Option CallRefusal
lengths_refusal m n = if nat_eq m n then None else Some UnequalLengths

-- the index of the first position that is refused, and why it is
abbrev pub first_refused : List FfosolvePosition → Option ℕ
first_refused ps = position (λ p. is_some (position_refusal p)) ps

abbrev pub first_refusal : List FfosolvePosition → Option CallRefusal
first_refusal ps =
    option_and_then (λ i. option_and_then position_refusal (slice_get ps i)) (first_refused ps)

-- why a request for the answers of a list is refused, where there is room for `room` answers
abbrev pub list_refusal : ℕ → ℕ → List FfosolvePosition → ℕ → Option CallRefusal
list_refusal scoring entries ps room =
    first_of (table_refusal scoring entries)
    (first_of (lengths_refusal (length ps) room) (first_refusal ps))

-- the refusal that a failed request returns: its own, or `NoMemory` if it has none
abbrev pub IsRefusal : Option CallRefusal → CallRefusal → Type 0
IsRefusal (Some refusal) returned = returned ≡ refusal
IsRefusal None returned = returned ≡ NoMemory

abbrev pub IsStatus : Option CallRefusal → ℤ → Type 0
IsStatus (Some refusal) status = status ≡ call_status refusal
IsStatus None status = (status ≡ pos 0) ⊎ (status ≡ call_status NoMemory)

-- the status is that of a position that is refused
abbrev pub IsOfPosition : ℤ → Type 0
IsOfPosition status = (status ≡ call_status SharedSquare) ⊎ (status ≡ call_status TooManyEmpties)
