-- Clients that are joined, one after the other.
use Rattle.std.proofs.Common.{◌≡◌, ℕ, List, [], ◌∷◌, ◌++◌, map, refl, sym, ap, ap₂, ◌∙◌, inl}
use Rattle.std.specs.Prelude.{Option, Some, None, Result, Ok, Err, IfOk, IfErr, Vec}
use Rattle.std.specs.declared.alloc.Global.{Global}
use Rattle.std.proofs.lemmas.List.{map-append}
use Rattle.othello_rules.specs.declared.scoring.Scoring.{Scoring}
use Rattle.program_settings.specs.declared.criteria.Criteria.{Criteria}
use Rattle.suite_runs.specs.Part.{GivesPart, GivesParts, IsPartFault, part_view, part_view_of}
use Rattle.suite_runs.specs.RunFault.{worse_fault}
use Rattle.suite_runs.specs.Threads.{AreJoined, promised_part}
use Rattle.suite_runs.specs.declared.run_fault.RunFault.{RunFault}
use Rattle.suite_runs.specs.declared.run_fault.RunFault.TheVariants.{Memory, Mixed, TooManyFiles, FileTooLarge}
use Rattle.suite_runs.specs.declared.part.Part.{Part}
use Rattle.suite_runs.specs.declared.started_client.PartPromise.{PartPromise}

worse_kept : (before : Option RunFault) (fault : RunFault) → IsPartFault fault → IsPartFault (worse_fault before fault)
worse_kept None fault h = h
worse_kept (Some Memory) fault h = inl refl
worse_kept (Some Mixed) fault h = h
worse_kept (Some TooManyFiles) fault h = h
worse_kept (Some (FileTooLarge s)) fault h = h

part_joined : (done : List PartPromise) (a : PartPromise) (parts : List Part) (part : Part) (fault : Option RunFault)
    → part_view_of part ≡ promised_part a → AreJoined done parts fault → AreJoined (done ++ a ∷ []) (parts ++ part ∷ []) fault
part_joined done a parts part None e h =
    map-append part_view_of parts (part ∷ []) ∙ ap₂ (λ l y. l ++ y ∷ []) h e ∙ sym (map-append promised_part done (a ∷ []))
part_joined done a parts part (Some fault) e h = h

-- a client is joined
pub join_step : (done : List PartPromise) (a : PartPromise) (old new : List Part) (before after : Option RunFault) (given : Result Part RunFault)
    → IfOk given (λ part. (new ≡ old ++ part ∷ []) × (after ≡ before)) → IfErr given (λ fault. after ≡ Some (worse_fault before fault))
    → GivesPart a.scoring a.criteria a.text.now given → AreJoined done old before → AreJoined (done ++ a ∷ []) new after
join_step done a old new before after (Ok part) ok err gives h = rw (ok.0, ok.1) (part_joined done a old part before gives h)
join_step done a old new before after (Err fault) ok err gives h = rw err (worse_kept before fault gives)

joined_parts : (clients : List PartPromise) (parts : List Part) (fault : Option RunFault)
    → AreJoined clients parts fault → fault ≡ None → map part_view_of parts ≡ map promised_part clients
joined_parts clients parts None h e = h
joined_parts clients parts (Some fault) h e = cc

joined_fault : (clients : List PartPromise) (parts : List Part) (fault : Option RunFault) (f : RunFault)
    → AreJoined clients parts fault → fault ≡ Some f → IsPartFault f
joined_fault clients parts None f h e = cc
joined_fault clients parts (Some fault) f h e = let same : fault ≡ f = cc in rw (← same) h

-- the parts that were joined are those of the texts
pub parts_given : (g : Scoring) (by : Criteria) (texts : List (List ℕ)) (clients : List PartPromise)
    (parts : Vec Part Global) (fault : Option RunFault) (r : Result (Vec Part Global) RunFault)
    → map promised_part clients ≡ map (part_view g by) texts → AreJoined clients parts.items fault
    → IfOk r (λ v. (v ≡ parts) × (fault ≡ None)) → IfErr r (λ f. fault ≡ Some f) → GivesParts g by texts r
parts_given g by texts clients parts fault (Ok v) e h ok err =
    ap (λ (w : Vec Part Global). map part_view_of w.items) ok.0 ∙ joined_parts clients parts.items fault h ok.1 ∙ e
parts_given g by texts clients parts fault (Err f) e h ok err = joined_fault clients parts.items fault f h err
