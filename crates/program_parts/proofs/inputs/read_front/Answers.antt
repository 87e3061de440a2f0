use Rattle.std.proofs.Common.{◌≡◌, ◌+◌, refl}
use Rattle.program_settings.specs.declared.limits.TheConstants.{MOST_BYTES}
use Rattle.program_parts.proofs.InputLemmas.{front_of}
use Rattle.program_parts.proofs.inputs.read_front.Goals as goal

pub returns-clause-front : goal.returns-clause-front
returns-clause-front g c =
    let known = g.R.Read.remaining c.args.reader.now in
    let same : g.R.Read.remaining c.take.result.inner.now ≡ known = rw c.take.ensures.inner refl in
    front_of known (g.R.Read.remaining c.take.result.inner.now) (MOST_BYTES + 1) c.take.result.limit
    c.new-bytes.result.items c.read_to_end.new.buf.items c.truncate.new.self.items same c.take.ensures.limit
    c.new-bytes.ensures.items c.truncate.ensures.items c.in_ok-read_to_end.ensures.bytes
