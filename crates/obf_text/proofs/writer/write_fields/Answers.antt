use Rattle.std.proofs.Common.{◌<◌, sym, subst}
use Rattle.std.specs.Prelude.{nat_abs}
use Rattle.std.specs.Io.KnownBytes.{Appends}
use Rattle.obf_text.specs.Written.{field_text}
use Rattle.obf_text.proofs.WriteSteps.{fields_more, fields_end, same_score}
use Rattle.obf_text.proofs.writer.write_fields.Goals as goal

pub loop-listed-preserved : goal.loop-listed-preserved
loop-listed-preserved g c =
    let f = c.loop-listed-item.result in
    let i = c.loop-listed.listed-index in
    let small : nat_abs f.1 < 100 = subst (λ e. nat_abs e.1 < 100) (sym c.loop-listed-item.is) (c.requires i f c.loop-listed-test.true) in
    fields_more _ _ _ c.args.fields.now i f _ c.loop-listed-test.true c.loop-listed-item.is c.loop-listed.invariant
    (subst (λ z. Appends (g.W.Write.contents c.loop-listed.writer) (g.W.Write.contents c.write_field.new.writer) (field_text (f.0, z)))
    (same_score f.1 small) c.in_ok-write_field.ensures)

pub returns : goal.returns
returns g c =
    fields_end _ _ c.args.fields.now c.loop-listed.listed-index _ c.loop-listed-test.false c.loop-listed.invariant
