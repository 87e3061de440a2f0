use Rattle.std.proofs.lemmas.List.{take_rest}
use Rattle.list_printer.proofs.ChunkLemmas.{ends_lines}
use Rattle.list_printer.proofs.chunks.first_chunk.Goals as goal

pub returns-clause-lines : goal.returns-clause-lines
returns-clause-lines c =
    let text = c.args.text.now in
    let end = c.chunk_len-end.result in
    rw (take_rest text end) (ends_lines text end c.chunk_len-end.ensures.ended)
