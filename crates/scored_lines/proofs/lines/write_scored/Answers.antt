use Rattle.std.proofs.Common.{◌≡◌, ◌≤◌, refl, ap, ◌∙◌, subst, arith}
use Rattle.std.specs.Prelude.{IfOk, OnOk}
use Rattle.std.specs.Io.KnownBytes.{Appends}
use Rattle.std.proofs.lemmas.Bool.{false≢true}
use Rattle.endgame_search.specs.Task.{TaskView}
use Rattle.othello_bits.specs.Pos.{empties_of}
use Rattle.obf_text.specs.Obf.{entry_of}
use Rattle.move_scores.specs.Scores.{score_fields_of}
use Rattle.scored_lines.proofs.EntryLines.{out_many, out_scored, right_many, right_scored}
use Rattle.scored_lines.proofs.EntryLines.{whole_from}
use Rattle.scored_lines.proofs.lines.write_scored.Goals as goal

pub returns-in-Ok : goal.returns-in-Ok
returns-in-Ok g c =
    let s = g.T.Bounds.scoring c.args.table.now in
    let p = c.of_grid.result in
    let whole = whole_from c.args.entry.now.grid p c.of_grid.ensures.meaning in
    let small : empties_of p ≤ c.args.criteria.limit = let within = c.in-Ok.ensures.when.0 refl in
    omega arith in
    let task : c.score_moves-scored.result ≡ record { position = p; scoring = s } =
    c.score_moves-scored.ensures ∙ c.in-Ok.ensures.task
    ∙ ap (λ r. let t : TaskView = record { position = p; scoring = r } in t) c.scoring.ensures in
    let scores : c.fields.result.now ≡ score_fields_of s p =
    c.fields.ensures.value ∙ ap (λ (t : TaskView). score_fields_of t.scoring t.position) task in
    record {
      written = subst (λ t. OnOk c.write_entry_line.result
          (Appends (g.W.Write.contents c.args.writer.now)
          (g.W.Write.contents c.write_entry_line.new.writer) t))
          (out_scored s c.args.criteria c.args.line.now (entry_of c.args.entry.now) p whole
          c.of_grid.ensures.value c.fields.result.now small scores)
          c.write_entry_line.ensures.written;
      right = subst (λ b. IfOk c.write_entry_line.result (λ r. r ≡ b))
          (right_scored s c.args.criteria c.args.line.now (entry_of c.args.entry.now) p whole
          c.of_grid.ensures.value c.fields.result.now small scores)
          c.write_entry_line.ensures.right;
    }

pub returns-in_ok-write_many-in-Err : goal.returns-in_ok-write_many-in-Err
returns-in_ok-write_many-in-Err g c =
    let s = g.T.Bounds.scoring c.args.table.now in
    let p = c.of_grid.result in
    let whole = whole_from c.args.entry.now.grid p c.of_grid.ensures.meaning in
    let many : empties_of p ≤ c.args.criteria.limit → ⊥ = λ h.
    false≢true (c.in-Err.ensures.when.1 (let few = c.requires in omega arith)) in
    record {
      written = subst (Appends (g.W.Write.contents c.args.writer.now)
          (g.W.Write.contents c.write_many.new.writer))
          (out_many s c.args.criteria c.args.line.now (entry_of c.args.entry.now) p whole
          c.of_grid.ensures.value c.in-Err.field-0.0 many c.in-Err.ensures.refused)
          c.in_ok-write_many-in-Err.ensures;
      right = right_many s c.args.criteria c.args.line.now (entry_of c.args.entry.now) p whole
          c.of_grid.ensures.value many;
    }
