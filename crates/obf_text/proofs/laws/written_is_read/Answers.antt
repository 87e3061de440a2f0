use Rattle.std.proofs.Common.{sym}
use Rattle.obf_text.specs.Obf.{Holds}
use Rattle.obf_text.specs.Written.{answer_entry, line_text}
use Rattle.obf_text.proofs.OnlyMeaning.{says_only}
use Rattle.obf_text.proofs.WrittenLines.{written_line, written_says}
use Rattle.obf_text.proofs.laws.written_is_read.Goals as goal

pub returns : goal.returns
returns c =
    record {
      line = written_line;
      says = written_says;
      item = λ P A all h. sym (says_only (line_text P A) (Holds (answer_entry P A)) (written_says P A all h));
    }
