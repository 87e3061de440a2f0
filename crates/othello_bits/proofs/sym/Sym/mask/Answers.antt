use Rattle.othello_bits.proofs.MaskImages.{is_mask_image}
use Rattle.othello_bits.proofs.sym.Sym.mask.Goals as goal

pub returns-clause-value : goal.returns-clause-value
returns-clause-value c = is_mask_image c.args.self c.args.mask c.permuted.result c.permuted.type_inv c.permuted.ensures
