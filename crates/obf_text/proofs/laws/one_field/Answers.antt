use Rattle.obf_text.proofs.FieldLemmas.{field_from, field_is, none_from, none_is, one_field}
use Rattle.obf_text.proofs.laws.one_field.Goals as goal

pub returns : goal.returns
returns c =
    record {
      only = one_field;
      found = λ piece f. (field_from piece f, field_is piece f);
      none = λ piece. (none_from piece, none_is piece);
    }
