use Rattle.std.proofs.Common.{◌≡◌, [], ◌∷◌, map, rules, ap, sym, ◌∙◌, arith, None, Some}
use Rattle.std.specs.Prelude.{Ok, option_map}
use Rattle.std.proofs.lemmas.Result.{err_from_is_err_and}
use Rattle.obf_text.specs.LineText.{lines_of}
use Rattle.obf_text.specs.Obf.{item_of}
use Rattle.solved_book.specs.Order.{position_at}
use Rattle.solved_book.specs.Claims.{ClaimsView, advice, claim_in_line, claims_after, claims_from, last_position}
use Rattle.solved_book.specs.Reading.{position_claim}
use Rattle.solved_book.specs.declared.book_fault.BookFault.TheVariants.{Memory}
use Rattle.solved_book.proofs.ClaimSteps.{claims_more, gives_fault, last_more, line_behind, reads_end, reads_err}
use Rattle.solved_book.proofs.ClaimSteps.{reads_none, reads_some, reads_start, room_more}
use Rattle.solved_book.proofs.KeptEntries.{rising_insert}
use Rattle.solved_book.proofs.claims.Claims.read_more.Goals as goal
use Rattle.solved_book.proofs.claims.Claims.read_more.Goals.{in-Some-2+in_ok-insert, in_default}

pub loop-line-init : goal.loop-line-init
loop-line-init c =
    let same = c.into_iter-line-iterator.ensures.into_iter_gives ∙ c.split_lines-line-items.ensures.lines in
    let room = c.split_lines-line-items.ensures.room in
    let kept = c.self.inside.claims.entries in
    record {
      reads =
          rw same (reads_start c.args.number c.last_masks-before.result kept c.args.self.claims
          (lines_of c.args.text.now) (ap (λ (a : ClaimsView). a.claims) c.self.view_is) c.last_masks-before.ensures);
      last = c.last_masks-before.ensures;
      rising = c.self.invariant;
      room = rw same (omega arith);
    }

pub loop-line-preserved : goal.loop-line-preserved
loop-line-preserved c =
    let number = c.loop-line.number in
    let before = c.loop-line.before in
    let line = c.in-Some.line.now in
    let left = c.loop-line.line-iterator in
    let lines = c.next.new.self in
    let kept = c.loop-line.claims.entries in
    let all = claims_after c.args.self.claims (claims_from c.args.number (last_position None c.args.self.claims) (lines_of c.args.text.now)) in
    let cut : left ≡ line ∷ lines = search rules in
    let room = room_more number _ line left lines cut c.loop-line.invariant.room in
    let held = c.loop-line.invariant in
    elim c.match-branch-2.branch [
      | in-Some-2+in_ok-insert w ↦
          let m = w.in-Some-2.masks in
          let v = w.in-Some-2.claim in
          let given : claim_in_line number (option_map position_at before) (item_of line) ≡ Ok (Some (position_at m, v)) =
          c.in_ok-masks.ensures ∙ ap (λ o. Ok (option_map position_claim o)) w.in-Some-2.is in
          let entries = ap (λ t. t.entries) w.claims-is ∙ w.in_ok-insert.ensures.entries in
          let behind = line_behind number (option_map position_at before) (item_of line) (position_at m, v) given in
          let more = claims_more before kept _ m v held.rising held.last behind entries in
          record {
            reads = rw w.before-is (reads_some number before kept _ m v line left lines all cut given more held.reads);
            last = rw w.before-is (sym (ap (last_position None) more ∙ last_more None (map position_claim kept) (position_at m, v)));
            rising = rw entries (rising_insert m v kept held.rising);
            room = room.1;
          }
      | in_default w ↦
          let given : claim_in_line number (option_map position_at before) (item_of line) ≡ Ok None =
          c.in_ok-masks.ensures ∙ ap (λ o. Ok (option_map position_claim o)) w.in_default.is in
          record {
            reads = rw (w.before-is, w.claims-is) (reads_none number before kept line left lines all cut given held.reads);
            last = rw (w.before-is, w.claims-is) held.last;
            rising = rw w.claims-is held.rising;
            room = room.1;
          }
    ]

pub returns-in_err-masks : goal.returns-in_err-masks
returns-in_err-masks c =
    let p = err_from_is_err_and c.from_residual.result c.from_residual.ensures.1 in
    let a = c.args.self in
    let last = last_position None a.claims in
    let lines = lines_of c.args.text.now in
    let cut : c.loop-line.line-iterator ≡ c.in-Some.line.now ∷ c.next.new.self = search rules in
    let fault =
    reads_err c.loop-line.number c.loop-line.before c.loop-line.claims.entries c.in-Some.line.now
    c.loop-line.line-iterator c.next.new.self c.in_err-masks.field-0.0
    (claims_after a.claims (claims_from c.args.number last lines)) cut c.in_err-masks.ensures c.loop-line.invariant.reads in
    rw (p.1, p.2) (gives_fault a.scoring c.in_err-masks.field-0.0 a.claims c.args.number last lines fault)

pub returns-in_err-insert : goal.returns-in_err-insert
returns-in_err-insert c =
    let p = err_from_is_err_and c.from_residual-in_err-insert.result c.from_residual-in_err-insert.ensures.1 in
    let a = c.args.self in
    rw (p.1, p.2) (gives_fault a.scoring Memory a.claims c.args.number (last_position None a.claims) (lines_of c.args.text.now) tt)

pub returns : goal.returns
returns c =
    let a = c.args.self in
    let kept = c.loop-line.claims.entries in
    let all = claims_after a.claims (claims_from c.args.number (last_position None a.claims) (lines_of c.args.text.now)) in
    let none : c.loop-line.line-iterator ≡ [] = search rules in
    let read = reads_end c.loop-line.number c.loop-line.before kept c.loop-line.line-iterator all none c.loop-line.invariant.reads in
    ap (advice a.scoring) read ∙ ap (λ (b : ClaimsView). advice b.scoring (Ok (map position_claim kept))) (sym c.self.view_is)
