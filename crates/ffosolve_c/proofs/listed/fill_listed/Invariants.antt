use Rattle.std.proofs.Common.{◌≡◌, map, take, drop}
use Rattle.ffosolve_c.specs.Lines.{c_listed}
use Rattle.ffosolve_c.proofs.listed.fill_listed.Given as goal

abbrev pub invariant-loop-i : goal.invariant-loop-i
invariant-loop-i l = record {
  written : take l.i l.places ≡ map c_listed (take l.i l.listed);
  kept : drop l.i l.places ≡ drop l.i l.fn.places;
}
