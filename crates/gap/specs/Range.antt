-- The range of a NAK (01, "One channel", elapsed): all that is missing before the nearest held wrapper, or all up to K.
use Rattle.std.specs.Prelude.{ℕ, ◌<◌, ◌≤◌, true, cond, List, ◌≡◌, Option, Some, None}
use Rattle.std.specs.Int.Signed.{lt_z}
use Rattle.std.specs.List.{fold}
use Rattle.counter.specs.Distance.{ahead, distance}
use Rattle.counter.specs.Steps.{next, previous}
use Rattle.counter.specs.declared.Reliable.{Reliable}
use Rattle.record.specs.Places.{place_at}
use Rattle.record.specs.declared.Place.{Place}
use Rattle.record.specs.declared.Record.{Record}

-- of the number found so far and what a place holds, the one at the lesser distance from r
unfoldable pub nearer : Reliable → Option Reliable → Place → Option Reliable
nearer r None p = cond p.used (Some p.reliable) None
nearer r (Some n) p =
    cond p.used
    (cond (lt_z (distance r.0 p.reliable.0) (distance r.0 n.0)) (Some p.reliable) (Some n))
    (Some n)

unfoldable pub nearest : Reliable → Option Reliable → List Place → Option Reliable
nearest r found ps = fold (nearer r) found ps

-- one before the nearest held number, or k if none is held
abbrev pub end_by : Option Reliable → Reliable → Reliable
end_by (Some n) k = record { 0 = previous n.0 }
end_by None k = k

-- where the NAK of a record ends
unfoldable pub nak_last : Record → Reliable
nak_last r = end_by (nearest r.reliable None r.places) r.known

-- and where it begins: at R + 1
unfoldable pub nak_first : Record → Reliable
nak_first r = record { 0 = next r.reliable.0 }

-- That a range `first` to `last` asks only for what is missing, said without the search that finds it, with R, K and the record's places: it begins right behind R; counting
-- up from R, at least one number leads to its end; its end is not past K; and every held number comes behind its end. That the NAKs of a record are so is proved
-- (proofs/Range.antt); where exactly they end is `nak_last`
pub record OnlyMissing (reliable known : ℕ) (places : List Place) (first last : ℕ) : Type 0 where
  pub begins : first ≡ next reliable
  pub some : 1 ≤ ahead reliable last
  pub within : ahead reliable last ≤ ahead reliable known
  pub missing : (i : ℕ) → (place_at places i).used ≡ true → ahead reliable last < ahead reliable (place_at places i).reliable.0
