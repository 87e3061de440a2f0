use Rattle.std.proofs.Common.{drop}
use Rattle.obf_text.specs.Written.{fields_text}
use Rattle.obf_text.proofs.WriterLemmas.{Completes}
use Rattle.obf_text.proofs.writer.write_fields.Given as goal

abbrev pub invariant-loop-listed : goal.invariant-loop-listed
invariant-loop-listed g l =
    Completes (g.W.Write.contents l.fn.writer) (g.W.Write.contents l.writer)
    (fields_text (drop l.listed-index l.fields)) (fields_text l.fn.fields)
