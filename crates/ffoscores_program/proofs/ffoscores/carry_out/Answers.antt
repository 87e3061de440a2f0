use Rattle.std.proofs.Common.{◌≡◌, ◌≤◌, length, refl}
use Rattle.std.specs.Prelude.{None}
use Rattle.std.proofs.lemmas.List.{length-map}
use Rattle.obf_text.specs.LineText.{texts_of}
use Rattle.program_settings.specs.InputFault.{first_large}
use Rattle.program_settings.specs.declared.limits.TheConstants.{MOST_FILES}
use Rattle.program_parts.specs.Inputs.{names_of}
use Rattle.ffoscores_program.specs.Options.{list_request_of}
use Rattle.ffoscores_program.proofs.ListEndings.{lists_read, printed, stopped}
use Rattle.ffoscores_program.proofs.ffoscores.carry_out.Goals as goal

pub returns-clause-printed : goal.returns-clause-printed
returns-clause-printed g c =
    let names = names_of c.args.asked.now.files.items in
    let given = g.R.Read.remaining c.args.input.now in
    let files = c.in_ok-texts.texts.items in
    let few : length files ≤ MOST_FILES = rw c.deref-2.ensures.value at (c.in_ok-check_files.ensures.few refl) in
    let small : first_large (texts_of files) ≡ None = rw c.deref-2.ensures.value at (c.in_ok-check_files.ensures.small refl) in
    let fronts = rw c.deref.ensures.value at c.in_ok-texts.ensures.ok in
    printed c.print_lists.result (list_request_of c.args.asked.now) given
    (g.W.Write.contents c.args.output.now) (g.W.Write.contents c.print_lists.new.output)
    (texts_of files) (lists_read names given (texts_of files) fronts (rw length-map few) small)
    (rw c.deref-3.ensures.value at c.print_lists.ensures.written) (rw c.deref-3.ensures.value at c.print_lists.ensures.right)

pub returns-clause-stopped : goal.returns-clause-stopped
returns-clause-stopped g c =
    let names = names_of c.args.asked.now.files.items in
    let given = g.R.Read.remaining c.args.input.now in
    let files = c.in_ok-texts.texts.items in
    let few : length files ≤ MOST_FILES = rw c.deref-2.ensures.value at (c.in_ok-check_files.ensures.few refl) in
    let small : first_large (texts_of files) ≡ None = rw c.deref-2.ensures.value at (c.in_ok-check_files.ensures.small refl) in
    let fronts = rw c.deref.ensures.value at c.in_ok-texts.ensures.ok in
    stopped c.print_lists.result (list_request_of c.args.asked.now) given
    (g.W.Write.contents c.args.output.now) (g.W.Write.contents c.print_lists.new.output)
    (texts_of files) (lists_read names given (texts_of files) fronts (rw length-map few) small)
    (rw c.deref-3.ensures.value at c.print_lists.ensures.front)
