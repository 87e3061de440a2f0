-- From what holds of a result in one case, `Ok` or `Err`, to what follows from it in that case.
use Rattle.std.proofs.Common.{refl}
use Rattle.std.specs.Prelude.{Result, Ok, Err, IfOk, IsOk, OnErr, OnOk}

pub on_ok : {T E : Type 0} (r : Result T E) (P Q : Type 0) → (IsOk r → P → Q) → OnOk r P → OnOk r Q
on_ok (Ok x) P Q f h = f refl h
on_ok (Err e) P Q f h = h

pub if_ok : {T E : Type 0} (r : Result T E) (P Q : T → Type 0) → (IsOk r → (x : T) → P x → Q x)
    → IfOk r P → IfOk r Q
if_ok (Ok x) P Q f h = f refl x h
if_ok (Err e) P Q f h = h

pub on_err : {T E : Type 0} (r : Result T E) (P : Type 0) → P → OnErr r P
on_err (Ok x) P h = tt
on_err (Err e) P h = h

pub err_to : {T E : Type 0} (r : Result T E) (P Q : Type 0) → (P → Q) → OnErr r P → OnErr r Q
err_to (Ok x) P Q f h = h
err_to (Err e) P Q f h = f h

pub both_ok : {T E : Type 0} (r : Result T E) (P Q R : Type 0) → (P → Q → R) → OnOk r P → OnOk r Q
    → OnOk r R
both_ok (Ok x) P Q R f h k = f h k
both_ok (Err e) P Q R f h k = tt
