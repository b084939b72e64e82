-- What the one table of data lengths has: no length over 46 octets, and no row for a vector that is none of the nine. Assumes nothing.
use Prim.Native.Nat.{ℕ, ◌≤◌}
use mathlib.Core.Path.{◌≡◌, refl}
use mathlib.Core.Logic.{◌≢◌}
use mathlib.Core.Bool.{Bool, true, false, cond, ◌&&◌, and-eq-true_iff}
use mathlib.Core.List.{List, [], ◌∷◌}
use lib.Dec.{eqb, leb}
use borrow.Author.Tests.{leb-true, ne_eqb}
use Rattle.std.specs.Prelude.{Option, Some, None, IfSome, option_map}
use Rattle.std.specs.List.{find}
use Rattle.message.specs.Lengths.{join, join_accept, join_refuse, leaving, nak, get_sessions, ack, reliable_wrapper, unreliable_wrapper, null, Row, rows, look, length_of}

-- every one of these rows is of at most n octets
abbrev within : ℕ → List Row → Bool
within n [] = true
within n (r ∷ rs) = leb r.len n && within n rs

module _ (v a n : ℕ) where
  look_within : (rs : List Row) → within n rs ≡ true → IfSome (look rs v a) (λ len. len ≤ n)
  unfolding look
  look_within [] h = tt
  look_within (r ∷ rs) h =
      let p = (and-eq-true_iff (leb r.len n) (within n rs)).0 h in
      by (eqb v r.vector && eqb a r.address) (find (λ q. eqb v q.vector && eqb a q.address) rs) (leb-true _ _ p.0) (look_within rs p.1)
    where
      by : (t : Bool) (o : Option Row) → r.len ≤ n → IfSome (option_map (λ q. q.len) o) (λ len. len ≤ n)
          → IfSome (option_map (λ q. q.len) (cond t (Some r) o)) (λ len. len ≤ n)
      by true o l m = l
      by false o l m = m

pub at_most_46 : (v a : ℕ) → IfSome (length_of v a) (λ len. len ≤ 46)
unfolding length_of
at_most_46 v a = look_within v a 46 rows refl

-- none of the vectors of the nine messages, in the order of the rows
abbrev pub NoneOfNine : ℕ → Type 0
NoneOfNine v =
    (v ≢ join)
    × ((v ≢ join_accept)
    × ((v ≢ join_refuse)
    × ((v ≢ leaving)
    × ((v ≢ nak) × ((v ≢ get_sessions) × ((v ≢ ack) × ((v ≢ reliable_wrapper) × (v ≢ unreliable_wrapper))))))))

pub no_row : (v : ℕ) → NoneOfNine v → length_of v null ≡ None
unfolding length_of look
no_row v (j, (a, (r, (l, (n, (g, (k, (w, u)))))))) =
    rw (
      ne_eqb v join j,
      ne_eqb v join_accept a,
      ne_eqb v join_refuse r,
      ne_eqb v leaving l,
      ne_eqb v nak n,
      ne_eqb v get_sessions g,
      ne_eqb v ack k,
      ne_eqb v reliable_wrapper w,
      ne_eqb v unreliable_wrapper u,
    )
