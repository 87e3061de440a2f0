use Rattle.std.proofs.Common.{◌≡◌, ◌≤◌, length, sym, ap, ◌∙◌, arith, refl}
use Rattle.std.proofs.lemmas.Bool.{false≢true}
use Rattle.othello_rules.specs.Rules.{GridView}
use Rattle.othello_bits.specs.Pos.{PosView, position_of, empties_of, answer_of}
use Rattle.othello_bits.proofs.CellLaws.{length-cells_of}
use Rattle.obf_text.specs.Obf.{entry_of}
use Rattle.suite_reports.proofs.EntryLemmas.{solved_entry, entry_task, refused_entry, entry_none}
use Rattle.suite_reports.proofs.parsed_line.ParsedLine.of_entry.Goals as goal

whole_from : (P : GridView) (p : PosView) → position_of P.mover p ≡ P → length P.cells ≡ 64
whole_from P p meaning = ap (λ (Q : GridView). length Q.cells) (sym meaning) ∙ length-cells_of P.mover p

pub returns-in-Ok-clause-result : goal.returns-in-Ok-clause-result
returns-in-Ok-clause-result c =
    let g = c.args.scoring in
    let p = c.of_grid.result in
    let whole = whole_from c.args.entry.grid p c.of_grid.ensures.meaning in
    let small : empties_of p ≤ c.args.criteria.limit = let within = c.in-Ok.ensures.when.0 refl in omega arith in
    let exact : answer_of c.in-Ok.task.scoring c.in-Ok.task.position ≡ answer_of g p = ap (λ t. answer_of t.scoring t.position) c.in-Ok.ensures.task in
    solved_entry g c.args.criteria (entry_of c.args.entry) p whole c.of_grid.ensures.value (answer_of c.in-Ok.task.scoring c.in-Ok.task.position) small exact

pub returns-in-Ok-clause-task : goal.returns-in-Ok-clause-task
returns-in-Ok-clause-task c =
    let p = c.of_grid.result in
    let whole = whole_from c.args.entry.grid p c.of_grid.ensures.meaning in
    let small : empties_of p ≤ c.args.criteria.limit = let within = c.in-Ok.ensures.when.0 refl in omega arith in
    entry_task c.args.scoring c.args.criteria (entry_of c.args.entry) p whole c.of_grid.ensures.value c.in-Ok.task small c.in-Ok.ensures.task

pub returns-in-Err-clause-result : goal.returns-in-Err-clause-result
returns-in-Err-clause-result c =
    let whole = whole_from c.args.entry.grid c.of_grid.result c.of_grid.ensures.meaning in
    let facts = c.in-Err.ensures in
    refused_entry c.args.scoring c.args.criteria (entry_of c.args.entry) c.of_grid.result whole c.of_grid.ensures.value c.in-Err.field-0.0
    (λ h. false≢true (facts.when.1 (let few = c.requires in omega arith))) facts.refused

pub returns-in-Err-clause-task : goal.returns-in-Err-clause-task
returns-in-Err-clause-task c =
    let whole = whole_from c.args.entry.grid c.of_grid.result c.of_grid.ensures.meaning in
    entry_none c.args.scoring c.args.criteria (entry_of c.args.entry) c.of_grid.result whole c.of_grid.ensures.value
    (λ h. false≢true (c.in-Err.ensures.when.1 (let few = c.requires in omega arith)))
