use Rattle.std.specs.Str.Parse.{ParsesUnsigned, ExplainsUnsignedError, HasUnsignedDigitsIfOk}
use Rattle.clap.specs.Words.{found_of, one_text, rows_of}
use Rattle.clap.proofs.WalkLemmas.{one_text-rows}
use Rattle.program_parts.proofs.NumberLemmas.{number_found, number_read}
use Rattle.program_parts.proofs.settings_args.u32_of.Goals as goal

pub returns-clause-value : goal.returns-clause-value
returns-clause-value c =
    let found = found_of c.args.matches.now in
    number_read (λ bs r. ParsesUnsigned 32 10 bs r × ExplainsUnsignedError 10 bs r × HasUnsignedDigitsIfOk bs r) 32 c.args.id.now (rows_of found)
    (one_text found c.args.id.now) c.get_one.result (one_text-rows found c.args.id.now) c.get_one.ensures.none c.get_one.ensures.value (λ u x g. g.0)

pub returns-clause-found : goal.returns-clause-found
returns-clause-found c = λ n small h.
    let found = found_of c.args.matches.now in
    number_found (λ bs r. ParsesUnsigned 32 10 bs r × ExplainsUnsignedError 10 bs r × HasUnsignedDigitsIfOk bs r) 32 n c.args.id.now (rows_of found)
    (one_text found c.args.id.now) c.get_one.result (one_text-rows found c.args.id.now) c.get_one.ensures.value (λ u x g. g.0) small h
