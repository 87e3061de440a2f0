use Rattle.std.proofs.Common.{◌≡◌, rules}
use Rattle.obf_text.specs.Obf.{Faulty, item_of}
use Rattle.obf_text.specs.declared.line_fault.LineFault.TheVariants.{BadSide}
use Rattle.obf_text.proofs.FrontFaults.{fault_stays}
use Rattle.obf_text.proofs.reader.fault_of_front.Goals as goal

pub returns-in-BadCell-clause-stays : goal.returns-in-BadCell-clause-stays
returns-in-BadCell-clause-stays c = λ more.
    let here : item_of c.args.front.now ≡ Faulty c.in-Err.fault = search rules in
    fault_stays c.args.front.now more c.in-Err.fault here (search rules)

pub returns-then-column-front-clause-stays : goal.returns-then-column-front-clause-stays
returns-then-column-front-clause-stays c = λ more.
    let fault = BadSide c.in-BadSide.column in
    let here : item_of c.args.front.now ≡ Faulty fault = search rules in
    fault_stays c.args.front.now more fault here c.if-column-front.true
