-- One pass over a block, message by message, as `scan` makes it: what is left of it at each PDU. Assumes nothing.
use mathlib.Core.Path.{◌≡◌, refl}
use Prim.Native.Nat.{ℕ, zero, suc, ◌+◌, ◌<◌, ◌≤◌}
use native.Mathlib.Omega.{arith}
use native.Mathlib.Nat.{add-zero, zero-add}
use mathlib.Core.Bool.{cond}
use mathlib.Core.List.{List, [], ◌∷◌}
use lib.ListN.{length}
use lib.Dec.{eqb}
use borrow.Author.Tests.{lt-ltb, le-ltb, eq-eqb, ne_eqb}
use borrow.Author.Rules.{rules}
use Rattle.std.specs.Prelude.{slice_get, Option, Some, None, Result, Ok, Err}
use Rattle.std.specs.Result.{result_map_both}
use Rattle.refusal.specs.declared.Refusal.{Refusal}
use Rattle.refusal.specs.declared.Refusal.TheVariants.{WrongSize, Malformed}
use Rattle.block.specs.Pdu.{pdu_at}
use Rattle.block.specs.Block.{most_block, nothing, Parsed, with, onward, parse_from, parse, scan_of}
use Rattle.block.specs.declared.Found.{Found}
use Rattle.block.specs.declared.Whole.{Whole}
use Rattle.block.specs.declared.Scanned.{Scanned}

-- of messages that are counted from `count` on, the one at the position; `found` if it is none of them
abbrev pick : ℕ → ℕ → Option Found → List Found → Option Found
pick count position found [] = found
pick count position found (m ∷ ms) = pick (count + 1) position (cond (eqb count position) (Some m) found) ms

-- what a pass answers that has `count` messages behind it, of which it kept `found`, and p before it
abbrev resumed : ℕ → ℕ → Option Found → Parsed → Result Scanned Refusal
resumed count position found (Ok ms) = Ok (record { count = count + length ms; found = pick count position found ms })
resumed count position found (Err at) = Err (Malformed at)

resumed_with : (count position : ℕ) (found : Option Found) (m : Found) (p : Parsed)
    → resumed count position found (with m p) ≡ resumed (count + 1) position (cond (eqb count position) (Some m) found) p
resumed_with count position found m (Err at) = refl
resumed_with count position found m (Ok ms) = let e : count + suc (length ms) ≡ count + 1 + length ms = omega arith in rw e

-- behind the position nothing more is picked
pick_past : (ms : List Found) (count position : ℕ) (found : Option Found) → position < count → pick count position found ms ≡ found
pick_past [] count position found h = refl
pick_past (m ∷ ms) count position found h =
    rw (ne_eqb count position (omega arith)) (pick_past ms (count + 1) position found (omega arith))

-- of messages that are counted from `count` on, the one at count + p is the one at p
pick_at : (ms : List Found) (count p : ℕ) → pick count (count + p) None ms ≡ slice_get ms p
pick_at [] count p = refl
pick_at (m ∷ ms) count zero = rw (eq-eqb count (count + 0) (omega arith)) (pick_past ms (count + 1) (count + 0) (Some m) (omega arith))
pick_at (m ∷ ms) count (suc p) =
    let e : count + suc p ≡ count + 1 + p = omega arith in
    rw (ne_eqb count (count + suc p) (omega arith), e) (pick_at ms (count + 1) p)

resumed_all : (position : ℕ) (p : Parsed)
    → resumed 0 position None p ≡ result_map_both (λ ms. record { count = length ms; found = slice_get ms position }) Malformed p
resumed_all position (Err at) = refl
resumed_all position (Ok ms) =
    let f : pick 0 position None ms ≡ slice_get ms position = rw (zero-add position) at (pick_at ms 0 position) in
    rw (zero-add (length ms), f)

-- from the start on it answers what `scan_of` says
resumed_is : (s : List ℕ) (position : ℕ) → length s ≤ most_block → resumed 0 position None (parse s) ≡ scan_of s position
unfolding scan_of
resumed_is s position h = rw (le-ltb most_block (length s) h) (resumed_all position (parse s))

-- what a pass has left: the PDUs from `at` on make of it what the whole block makes. Any fuel that is enough for them will do, so that the
-- loop needs no law on fuel
pub record Rest (s : List ℕ) (position at count : ℕ) (before : Found) (found : Option Found) : Type 0 where
  pub fuel : ℕ
  pub enough : length s ≤ at + fuel
  pub comes : resumed count position found (parse_from fuel s at before) ≡ scan_of s position

pub too_long : (s : List ℕ) (position : ℕ) → most_block < length s → Err WrongSize ≡ scan_of s position
unfolding scan_of
too_long s position h = rw (lt-ltb most_block (length s) h)

pub begun : (s : List ℕ) (position : ℕ) → length s ≤ most_block → Rest s position 0 0 nothing None
unfolding parse
begun s position h = record { fuel = length s; enough = omega arith; comes = resumed_is s position h }

module _ (s : List ℕ) (position at count : ℕ) (before : Found) (found : Option Found) where
  -- where there is a PDU, there is fuel for it
  at_pdu : (k : ℕ) → at < length s → length s ≤ at + k → resumed count position found (parse_from k s at before) ≡ scan_of s position
      → (j : ℕ)
      × (length s ≤ at + suc j)
      × (resumed count position found (onward at (pdu_at s at before) (λ m next. parse_from j s next m)) ≡ scan_of s position)
  unfolding parse_from
  at_pdu zero i enough comes = absurd (omega arith)
  at_pdu (suc j) i enough comes = (j, enough, rw (lt-ltb at (length s) i) at comes)

  at_end : (k : ℕ) → length s ≤ at → parse_from k s at before ≡ Ok []
  unfolding parse_from
  at_end zero i = refl
  at_end (suc k) i = rw (le-ltb at (length s) i)

  module _ (rest : Rest s position at count before found) where
    pub through : length s ≤ at → Ok (record { count = count; found = found }) ≡ scan_of s position
    through i = rw (at_end rest.fuel i, add-zero count) at rest.comes

    module _ (i : at < length s) (p : Option Whole) (q : p ≡ pdu_at s at before) where
      pub stopped : p ≡ None → Err (Malformed at) ≡ scan_of s position
      stopped e = rw (← q, e) at (at_pdu rest.fuel i rest.enough rest.comes).2

      module _ (w : Whole) (e : p ≡ Some w) (h : at < w.next) where
        turned : (kept : Option Found) → kept ≡ cond (eqb count position) (Some w.found) found
            → Rest s position w.next (count + 1) w.found kept
        turned kept k =
            let a = at_pdu rest.fuel i rest.enough rest.comes in
            record {
              fuel = a.0;
              enough = omega arith;
              comes = rw (k, ← resumed_with count position found w.found (parse_from a.0 s w.next w.found)) (rw (← q, e) at a.2);
            }

        pub turned_here : count ≡ position → Rest s position w.next (count + 1) w.found (Some w.found)
        turned_here z = turned (Some w.found) (rw (eq-eqb count position z))

        pub turned_past : (count ≡ position → ⊥) → Rest s position w.next (count + 1) w.found found
        turned_past n = turned found (rw (ne_eqb count position n))

pub ruleset turns = (too_long, begun, stopped, turned_here, turned_past, through, rules)
