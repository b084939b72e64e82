-- The numbers that a message brings to the table, in its wrapper or its Join, have 32 bits (`wrapper_says`, `join_says`, and so `asked_brings`), since each is
-- read from four octets. Assumes that the data are octets.
use Prim.Native.Nat.{ℕ, ◌^◌, ◌<◌}
use native.Mathlib.Nat.{lt_of_lt_of_le, pow-le-pow_right, min-le_left}
use mathlib.Core.List.{List}
use lib.Dec.{lit<, ltb, eqb}
use lib.ListN.{length, drop, length-take}
use Rattle.std.specs.Prelude.{Option, Some, None, Result, Ok, Err}
use Rattle.octets.specs.Octets.{part, number_at, Octets}
use Rattle.octets.proofs.Numbers.{number_below}
use Rattle.message.specs.Lengths.{reliable_wrapper}
use Rattle.message.specs.Layouts.{wrapper_of, join_of}
use Rattle.message.specs.Reading.{contents}
use Rattle.message.specs.declared.Cid.{Cid}
use Rattle.refusal.specs.declared.Refusal.{Refusal}
use Rattle.refusal.specs.declared.Refusal.TheVariants as refusal
use Rattle.record.specs.WellFormed.{most_contents}
use Rattle.record.specs.declared.Record.{Record}
use Rattle.record.proofs.Choices.{either}
use Rattle.table.specs.Table.{same, found}
use Rattle.asking.specs.Asking.{arrived_of, wrapper_for, wrapper_asks, join_asks, asked_of}
use Rattle.asking.specs.declared.Asked.{Asked}
use Rattle.asking.specs.declared.Asked.TheVariants as asked
use Rattle.demands.specs.Calls.{Both}
use Rattle.demands.proofs.Lemmas.Again.{octets_take, octets_drop}
use Rattle.demands.proofs.Lemmas.Asks as asks
use Rattle.demands.proofs.Lemmas.Asks.{Asks}

-- a number in n octets is below 256^n, whether or not all of them are there
pub number_short : (d : List ℕ) (at n : ℕ) → Octets d → number_at d at n < 256 ^ n
number_short d at n o =
    lt_of_lt_of_le
    (number_below (part d at n) (octets_take n (drop at d) (octets_drop at d o)))
    (pow-le-pow_right (lit< tt) (rw (length-take n (drop at d)) (min-le_left n (length (drop at d)))))

-- ---- of a wrapper and of a Join

module _ (v : ℕ) (d : List ℕ) (o : Octets d) where
  pub wrapper_says : Both (wrapper_of d).total (wrapper_of d).reliable
  unfolding wrapper_of
  wrapper_says = (number_short d 2 4 o, number_short d 6 4 o)

  pub join_says : Both (join_of d).total (join_of d).reliable
  unfolding join_of
  join_says = (number_short d 22 4 o, number_short d 26 4 o)

-- ---- and so of what a message asks

abbrev pub Brings : Result Asked Refusal → Type 0
Brings (Err why) = Unit {0}
Brings (Ok (asked.Join j)) = Both j.total j.reliable
Brings (Ok (asked.Wrapper i w)) = Both w.total w.reliable

module _ (ts : List Record) (s ours : Cid) where
  wrapper_brings : (f : Option ℕ) (v : ℕ) (d : List ℕ) → Octets d → Brings (wrapper_for f (eqb v reliable_wrapper) (wrapper_of d) (length (contents d)))
  wrapper_brings None v d o = tt
  wrapper_brings (Some i) v d o =
      either Brings (ltb most_contents (length (contents d))) (Err refusal.ContentsOver)
      (Ok (asked.Wrapper i (arrived_of (eqb v reliable_wrapper) (wrapper_of d) (length (contents d)))))
      tt (wrapper_says v d o)

  join_brings : (v : ℕ) (d : List ℕ) → Octets d → Brings (join_asks ours (join_of d))
  unfolding join_asks
  join_brings v d o = either Brings (same (join_of d).cid ours) (Ok (asked.Join (join_of d))) (Err refusal.NotForUs) (join_says v d o) tt

  pub asked_brings : (v : ℕ) (d : List ℕ) → Octets d → Brings (asked_of ts s ours v d)
  unfolding wrapper_asks
  asked_brings v d o = by (asks.asks ts s ours v d)
    where
      by : {a : Result Asked Refusal} → Asks ts s ours v d a → Brings a
      by (asks.refuses why) = tt
      by (asks.joins r e) = join_brings v d o
      by (asks.wraps r e) = wrapper_brings (found s (wrapper_of d).channel ts) v d o
