-- What follows from a call's promise.
use Rattle.std.proofs.Common.{Result, Ok, Err}
use Rattle.std.specs.Prelude.{OnErr, OnOk}

pub at_success : {A E : Type 0} (r : Result A E) (P Q : Type 0) → (P → Q) → OnOk r P → OnOk r Q
at_success (Ok a) P Q f h = f h
at_success (Err e) P Q f h = tt

-- what holds in any case
pub on_err : {A E P : Type 0} (r : Result A E) → P → OnErr r P
on_err (Ok a) p = tt
on_err (Err e) p = p

pub at_fault : {A E : Type 0} (r : Result A E) (P Q : Type 0) → (P → Q) → OnErr r P → OnErr r Q
at_fault (Ok a) P Q f h = tt
at_fault (Err e) P Q f h = f h
