-- What an answer tells where it is one of the two: of the edges that were added, or of one too many.
use Rattle.std.specs.Prelude.{Result, Ok, Err, OnOk, OnErr}
use Prim.{tt}

pub on_ok : {T E P Q : Type 0} (r : Result T E) → OnOk r P → (P → Q) → OnOk r Q
on_ok (Ok x) h f = f h
on_ok (Err e) h f = tt

pub on_err : {T E P Q : Type 0} (r : Result T E) → OnErr r P → (P → Q) → OnErr r Q
on_err (Ok x) h f = tt
on_err (Err e) h f = f h
