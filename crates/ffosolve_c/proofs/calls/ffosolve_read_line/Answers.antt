use Rattle.std.proofs.Common.{◌≡◌, ap, ◌∙◌, map, rules}
use Rattle.obf_text.specs.Obf.{Entry, Faulty, Holds, Skipped, entry_of}
use Rattle.ffosolve_c.specs.Lines.{c_line, c_listed, written_over}
use Rattle.ffosolve_c.proofs.LineMeaning.{same_entry, same_place, fault_of_line}
use Rattle.ffosolve_c.proofs.calls.ffosolve_read_line.Goals as goal

pub returns-in-Ok-Skip-clause-at : goal.returns-in-Ok-Skip-clause-at
returns-in-Ok-Skip-clause-at c fault says =
    let gives = rw c.in-Ok-Skip.field-0-is at c.in-Ok-Skip.ensures.says in
    let other : Faulty fault ≡ Skipped = gives (Faulty fault) says in cc

pub returns-in-Ok-Entry-clause-line : goal.returns-in-Ok-Entry-clause-line
returns-in-Ok-Entry-clause-line c entry says _ =
    let gives = rw c.in-Ok-Entry.field-0-is at c.in-Ok-Entry.ensures.says in
    c.c_line.ensures ∙ ap c_line (same_entry (entry_of c.in-Ok-Entry.entry) entry (gives (Holds entry) says))

pub returns-in-Ok-Entry-clause-listed : goal.returns-in-Ok-Entry-clause-listed
returns-in-Ok-Entry-clause-listed c entry says _ =
    let gives = rw c.in-Ok-Entry.field-0-is at c.in-Ok-Entry.ensures.says in
    let same : entry_of c.in-Ok-Entry.entry ≡ entry = same_entry (entry_of c.in-Ok-Entry.entry) entry (gives (Holds entry) says) in
    c.fill_listed.ensures ∙ ap (λ items. written_over c.args.listed.now (map c_listed items)) (c.deref.ensures.value ∙ ap (λ (e : Entry). e.listed) same)

pub returns-in-Ok-Entry-clause-at : goal.returns-in-Ok-Entry-clause-at
returns-in-Ok-Entry-clause-at c fault says =
    let gives = rw c.in-Ok-Entry.field-0-is at c.in-Ok-Entry.ensures.says in
    let other : Faulty fault ≡ Holds (entry_of c.in-Ok-Entry.entry) = gives (Faulty fault) says in cc

pub returns-in-Err-clause-at : goal.returns-in-Err-clause-at
returns-in-Err-clause-at c fault says =
    let gives = c.in-Err.ensures.says (Faulty fault) says in
    c.place_or.ensures.place (fault_of_line c.in-Err.fault fault gives) ∙ same_place c.in-Err.fault fault gives

pub returns-in-Ok-Skip-clause-status : goal.returns-in-Ok-Skip-clause-status
returns-in-Ok-Skip-clause-status c = search rules

pub returns-in-Ok-Skip-clause-line : goal.returns-in-Ok-Skip-clause-line
returns-in-Ok-Skip-clause-line c = search rules

pub returns-in-Ok-Skip-clause-listed : goal.returns-in-Ok-Skip-clause-listed
returns-in-Ok-Skip-clause-listed c = search rules
