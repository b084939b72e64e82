-- Two sentences of 01 on reading a message: it is refused exactly if it is not readable, and of a Join with another address type than null or
-- IPv4 only the first 31 octets are looked at. Assumes nothing.
use Prim.Native.Nat.{ℕ, zero, suc, ◌+◌, ◌<◌, ◌≤◌, suc-le-suc}
use native.Mathlib.Nat.{not-suc-le-zero}
use native.Mathlib.Omega.{arith}
use mathlib.Core.Path.{◌≡◌, refl, sym, ap, ◌∙◌}
use mathlib.Core.Logic.{◌↔◌}
use mathlib.Core.Bool.{Bool, true, false}
use Rattle.std.specs.Prelude.{Ok, Err}
use mathlib.Core.List.{List, [], ◌∷◌}
use lib.ListN.{length, get_or, take}
use lib.Seq.{take-take, get_or-take}
use borrow.Author.Tests.{le-leb}
use Rattle.octets.specs.Octets.{part}
use Rattle.message.specs.Lengths.{join, ipv4}
use Rattle.message.specs.Layouts.{cid_at, join_of}
use Rattle.message.specs.Reading.{readable, message_of, read_message}
use Rattle.message.specs.declared.Message.TheVariants as message
use Rattle.refusal.specs.declared.Refusal.TheVariants as refusal
use Rattle.message.proofs.Readable.{join_readable, other_readable}
use Rattle.message.proofs.Arms.{other_address, joining, answered}

-- ---- refused exactly if not readable

module _ (v : ℕ) (d : List ℕ) where
  unreadable : readable v d ≡ false → read_message v d ≡ Err refusal.NoForm
  unfolding read_message
  unreadable e = rw e

  not_readable : read_message v d ≡ Err refusal.NoForm → readable v d ≡ false
  not_readable e = by (readable v d) refl
    where
      by : (t : Bool) → readable v d ≡ t → readable v d ≡ false
      by true r = cc (answered v d (message_of v d) r refl)
      by false r = r

  pub refused_exactly : read_message v d ≡ Err refusal.NoForm ↔ readable v d ≡ false
  refused_exactly = (not_readable, unreadable)

-- ---- only 31 octets looked at

-- a part that ends within the first k octets is a part of these
part_take : (k at n : ℕ) (s : List ℕ) → at + n ≤ k → part (take k s) at n ≡ part s at n
part_take k zero n s h = take-take n k s (omega arith)
part_take zero (suc at) n s h = absurd (omega arith)
part_take (suc k) (suc at) n [] h = refl
part_take (suc k) (suc at) n (x ∷ s) h = part_take k at n s (omega arith)

-- past the end every octet reads as 0
within : (s : List ℕ) (k : ℕ) → 0 < get_or s k 0 → k < length s
within [] k h = absurd (not-suc-le-zero h)
within (x ∷ s) zero h = omega arith
within (x ∷ s) (suc k) h = suc-le-suc (within s k h)

type_take : (d : List ℕ) → get_or (take 31 d) 30 0 ≡ get_or d 30 0
type_take d = get_or-take 31 d 30 0 (omega arith)

module _ (d : List ℕ) (h : ipv4 < get_or d 30 0) where
  -- such a Join is always readable: that its type is not 0 says that its 31 octets are there
  pub other_read : read_message join d ≡ Ok (message.Join (join_of d))
  other_read =
      sym
      (answered
      join
      d
      (message.Join (join_of d))
      (join_readable d ∙ other_readable d h ∙ le-leb 31 (length d) (within d 30 (omega arith)))
      (joining join d (join_of d) refl refl))

  joined_take : join_of (take 31 d) ≡ join_of d
  unfolding join_of cid_at
  joined_take =
      cc (
        part_take 31 0 8 d (omega arith),
        part_take 31 8 8 d (omega arith),
        part_take 31 16 2 d (omega arith),
        part_take 31 18 2 d (omega arith),
        part_take 31 20 2 d (omega arith),
        part_take 31 22 4 d (omega arith),
        part_take 31 26 4 d (omega arith),
        type_take d,
        other_address d (omega arith) (omega arith),
        other_address (take 31 d) (omega (arith, type_take d)) (omega (arith, type_take d)),
      )

-- data that agrees in its first 31 octets, the last of which is another type, is read alike. That both are 31 octets or longer is no premise:
-- the type says so
pub only_31_looked_at : (d e : List ℕ) → take 31 d ≡ take 31 e → ipv4 < get_or d 30 0 → read_message join d ≡ read_message join e
only_31_looked_at d e q h =
    let t : get_or e 30 0 ≡ get_or d 30 0 = sym (type_take e) ∙ ap (λ (s : List ℕ). get_or s 30 0) (sym q) ∙ type_take d in
    cc (other_read d h, other_read e (omega arith), joined_take d h, joined_take e (omega arith))
