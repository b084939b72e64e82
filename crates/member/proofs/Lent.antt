-- A call that ends by `ok_or(why)?`, and pieces that are lent as slices and taken as arrays of their sizes. Assumes nothing.
use mathlib.Core.Path.{◌≡◌, ap}
use Rattle.std.specs.Prelude.{Option, None, Result, Ok, Err}
use Rattle.std.specs.Option.{ok_or}
use Rattle.std.specs.Result.{IsErrAnd}

-- what is answered is why
pub answers_why : {T U E : Type 0} (o : Option T) (why e : E) (r : Result U E) → o ≡ None → ◌≡◌ {A = Result T E} (Err e) (ok_or o why)
    → IsErrAnd r (λ y. y ≡ e) → r ≡ Err why
answers_why o why e (Ok x) n v h = absurd h
answers_why {T} o why e (Err y) n v h = let w : ◌≡◌ {A = Result T _} (Err e) (Err why) = rw n at v in cc

-- and a call that ends by a callee's refusal passes it on
pub passes_on : {U E : Type 0} (e : E) (r : Result U E) → IsErrAnd r (λ y. y ≡ e) → r ≡ Err e
passes_on e (Ok x) h = absurd h
passes_on e (Err y) h = ap Err h
