-- What is promised of a value that a thread was started to make.
use Rattle.std.specs.Prelude.{◌≡◌}
use Rattle.std.specs.declared.thread.Promise as Promise
use Rattle.started_threads.specs.declared.started.Making.{Making}
use Rattle.started_threads.specs.declared.started.Making.TheVariants.{Pending, Ready}

module _ {T P : Type 0} (g : Promise.Ghosts P T) where
  -- the thread promises this, or the value that the calling thread made keeps this promise
  abbrev pub IsMakingOf : P → Making T P → Type 0
  IsMakingOf promise (Pending handle) = handle.promise ≡ promise
  IsMakingOf promise (Ready value) = g.kept_by promise value
