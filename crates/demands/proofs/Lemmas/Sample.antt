-- Messages and a table for the examples at the end of the theorems: a reliable wrapper on channel 7 and a Join to channel 7, whose data are octets (`lawful`), and a
-- well-formed table of which record 2 has channel 7 and holds a wrapper (`joined_one`).
use Prim.{tt}
use Prim.Native.Nat.{ℕ, zero, suc}
use mathlib.Core.Bool.{Bool, true, false, ◌&&◌, and-eq-true_iff}
use mathlib.Core.List.{List, [], ◌∷◌, ◌++◌}
use mathlib.Core.Path.{◌≡◌, refl, ◌∙◌}
use native.Mathlib.Omega.{arith}
use lib.Dec.{lit<, ltb}
use lib.ListN.{length, get_or, replicate, length-replicate}
use Rattle.octets.specs.Octets.{splice, Octets}
use Rattle.octets.proofs.Writes.{length_splice}
use Rattle.counter.specs.Distance.{distance}
use Rattle.message.specs.Layouts.{total, reliable}
use Rattle.message.specs.Lengths.{reliable_wrapper}
use Rattle.message.specs.declared.Cid.{Cid}
use Rattle.record.specs.Legal.{legal_names, legal_parameters}
use Rattle.record.specs.Profile.{min_expiry, max_retries}
use Rattle.record.specs.WellFormed.{held_right, apart, apart_from, held_apart, held_all_right, closed, gap_right, terms_right, well_formed}
use Rattle.record.specs.declared.Gap.TheVariants as gap
use Rattle.record.specs.declared.Record.{Record}
use Rattle.record.specs.Places.{no_place}
use Rattle.table.specs.Table.{same, named, differs, table_formed, blank}
use Rattle.carry.specs.Carried.{place_begins}
use Rattle.carry.proofs.DeliveredLength.{each_at}
use Rattle.member.specs.Sizes.{held_size, deliver_size, reply_size}
use Rattle.demands.specs.Calls as calls
use Rattle.demands.specs.Calls.{Call, State, Sound, Both}
use Rattle.demands.specs.TwoRuns.{Joined}
use Rattle.demands.proofs.Lemmas.Sounds.{sound_by}
use borrow.Author.Tests.{ltb-true}

-- ---- messages

-- the 16 octets of a CID whose halves are a and b
abbrev pub cid : ℕ → ℕ → List ℕ
cid a b = replicate 7 0 ++ a ∷ replicate 7 0 ++ b ∷ []

-- the wrapper with total and reliable number k, oldest available 11, asking no member for an ACK, with contents c
abbrev pub wrapper_data : ℕ → List ℕ → List ℕ
wrapper_data k c = 0 ∷ 7 ∷ 0 ∷ 0 ∷ 0 ∷ k ∷ 0 ∷ 0 ∷ 0 ∷ k ∷ 0 ∷ 0 ∷ 0 ∷ 11 ∷ replicate 6 0 ++ c

-- such a message, with the caller's reciprocal number n, which plays no part
abbrev pub wrapper_with : ℕ → List ℕ → ℕ → List ℕ → Call
wrapper_with n sender k c = calls.message held_size deliver_size reply_size sender (replicate 16 0) reliable_wrapper (wrapper_data k c) n

abbrev pub wrapper_call : List ℕ → ℕ → List ℕ → Call
wrapper_call sender k c = wrapper_with 0 sender k c

-- a Join of member 3 to channel 7 for the component with CID 0, with total and reliable number 10, a null address, expiry 5, modulus 1 and maxwait 100
abbrev pub join_data : List ℕ
join_data = replicate 16 0 ++ 0 ∷ 3 ∷ 0 ∷ 7 ∷ 0 ∷ 9 ∷ 0 ∷ 0 ∷ 0 ∷ 10 ∷ 0 ∷ 0 ∷ 0 ∷ 10 ∷ 0 ∷ 5 ∷ 0 ∷ 0 ∷ 0 ∷ 0 ∷ 1 ∷ 0 ∷ 100 ∷ 0 ∷ []

-- lists whose elements are all octets, by a test that computes
abbrev pub small : List ℕ → Bool
small [] = true
small (x ∷ s) = ltb x 256 && small s

pub lawful : (s : List ℕ) → small s ≡ true → Octets s
unfolding Octets
lawful [] e i = lit< tt
lawful (x ∷ s) e zero = ltb-true x 256 ((and-eq-true_iff (ltb x 256) (small s)).0 e).0
lawful (x ∷ s) e (suc i) = lawful s ((and-eq-true_iff (ltb x 256) (small s)).0 e).1 i

-- ---- a table

-- a member of channel 7 that holds the three octets of wrapper 12 and stands off, as 11 is missing
abbrev pub holding : Cid → Record
holding owner =
    record {
      used = true;
      terms =
          record {
            owner = owner;
            channel = 7;
            mid = 3;
            reciprocal = 9;
            expiry = 5;
            outbound = false;
            holdoff = 0;
            modulus = 1;
            maxwait = 100;
          };
      total = total 10;
      reliable = reliable 10;
      known = reliable 12;
      acked = reliable 10;
      idle = 0;
      gap = gap.Standoff 50 0;
      places = record { used = true; total = total 12; reliable = reliable 12; len = 3 } ∷ replicate 3 no_place;
    }

abbrev pub first : Cid
first = record { high = 1; low = 2 }

abbrev pub second : Cid
second = record { high = 3; low = 4 }

abbrev pub free : Record
free = blank (replicate 4 no_place)

-- record 5 is r, and record 2 has channel 7 of the first owner
abbrev pub table_of : Record → List Record
table_of r = free ∷ free ∷ holding first ∷ free ∷ free ∷ r ∷ free ∷ free ∷ []

-- the wrapper's octets, and the octet x all around
unfoldable pub held_of : ℕ → List ℕ
held_of x = splice (replicate held_size x) (place_begins 2 0) (1 ∷ 2 ∷ 3 ∷ [])

abbrev pub state_of : Record → ℕ → State
state_of r x = record { table = table_of r; held = held_of x }

fresh : (n j : ℕ) → get_or (replicate n no_place) j no_place ≡ no_place
fresh zero j = refl
fresh (suc n) zero = refl
fresh (suc n) (suc j) = fresh n j

pub fresh_below : (n j : ℕ) → Both (get_or (replicate n no_place) j no_place).total (get_or (replicate n no_place) j no_place).reliable
fresh_below n j = rw (fresh n j) (lit< tt, lit< tt)

pub sound_free : Sound free
sound_free = sound_by refl (lit< tt, lit< tt) (lit< tt) (lit< tt) (fresh_below 4)

pub sound_holding : (owner : Cid) → Sound (holding owner)
sound_holding owner = sound_by refl (lit< tt, lit< tt) (lit< tt) (lit< tt) held
  where
    held : (j : ℕ) → Both (get_or (holding owner).places j no_place).total (get_or (holding owner).places j no_place).reliable
    held zero = (lit< tt, lit< tt)
    held (suc j) = fresh_below 3 j

pub held_size_lem : (x : ℕ) → length (held_of x) ≡ held_size
unfolding held_of place_begins
held_size_lem x =
    let l : length (replicate held_size x) ≡ held_size = length-replicate held_size x in
    length_splice (replicate held_size x) (place_begins 2 0) (1 ∷ 2 ∷ 3 ∷ []) (omega arith) ∙ l

pub joined_in : (r : Record) (x : ℕ) → Sound r → table_formed (table_of r) ≡ true → Joined 2 first 7 (state_of r x)
unfolding named same
joined_in r x sound well =
    record {
      right =
          record {
            formed = well;
            eight = refl;
            sound =
                each_at Sound (blank []) (table_of r)
                (sound_free, (sound_free, (sound_holding first, (sound_free, (sound_free, (sound, (sound_free, (sound_free, tt))))))));
            size = held_size_lem x;
          };
      has = refl;
    }

pub joined_one : Joined 2 first 7 (state_of free 0)
unfolding table_formed
    differs named well_formed terms_right legal_names legal_parameters min_expiry distance held_all_right held_right held_apart apart_from apart gap_right closed max_retries
joined_one = joined_in free 0 sound_free refl
