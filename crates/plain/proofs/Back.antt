-- A struct of numbers holds all of its message: it gives the message back, so two messages never look alike to C. That holds of messages
-- with a proper address type, and reading gives no others. Assumes nothing.
use Prim.Native.Nat.{ℕ, ◌<◌}
use native.Mathlib.Omega.{arith}
use mathlib.Core.Path.{◌≡◌, refl}
use mathlib.Core.Bool.{Bool, true, false, cond}
use mathlib.Core.List.{List}
use lib.ListN.{get_or}
use lib.Dec.{eqb}
use borrow.Author.Tests.{eqb-false, ne_eqb}
use Rattle.std.specs.Prelude.{Some}
use Rattle.message.specs.Lengths.{reliable_wrapper, unreliable_wrapper, join, join_refuse, join_accept, leaving, ack, nak, null, ipv4}
use Rattle.message.specs.Layouts as layouts
use Rattle.message.specs.Reading.{fixed_of, message_of}
use Rattle.message.specs.declared.Address.{Address}
use Rattle.message.specs.declared.Address.TheVariants as address
use Rattle.message.specs.declared.Join.{Join}
use Rattle.message.specs.declared.Message.{Message}
use Rattle.message.specs.declared.Message.TheVariants as message
use Rattle.plain.specs.Messages.{destination_of, parameters_of, join_plain, plain_of, address_of, typed_of}

-- an address of another type than null and IPv4 has neither of their numbers
abbrev pub ProperAddress : Address → Type 0
ProperAddress a = (t : ℕ) → a ≡ address.Other t → ipv4 < t

abbrev pub Proper : Message → Type 0
Proper m = (j : Join) → m ≡ message.Join j → ProperAddress j.address

address_back : (a : Address) → ProperAddress a → address_of (destination_of a) (parameters_of a) ≡ a
unfolding address_of
address_back (address.Null p) h = refl
address_back (address.Ipv4 e p) h = refl
address_back (address.Other t) h =
    let l : ipv4 < t = h t refl in
    rw (ne_eqb t null (λ e. omega arith), ne_eqb t ipv4 (λ e. omega arith))

pub typed_plain : (m : Message) → Proper m → typed_of (plain_of m) ≡ Some m
unfolding typed_of plain_of join_plain
typed_plain (message.ReliableWrapper w) h = refl
typed_plain (message.UnreliableWrapper w) h = refl
typed_plain (message.Join j) h = rw (address_back j.address (h j refl))
typed_plain (message.JoinRefuse m reason) h = refl
typed_plain (message.JoinAccept m reciprocal) h = refl
typed_plain (message.Leaving m reason) h = refl
typed_plain (message.Ack r) h = refl
typed_plain (message.Nak m first last) h = refl
typed_plain (message.GetSessions cid) h = refl

pub plain_apart : {m n : Message} → Proper m → Proper n → plain_of m ≡ plain_of n → m ≡ n
plain_apart {m} {n} h k e = cc (typed_plain m h, typed_plain n k)

-- ---- what reading gives

address_proper : (d : List ℕ) → ProperAddress (layouts.address_of d)
unfolding layouts.address_of
address_proper d t e = by (eqb (get_or d 30 0) null) (eqb (get_or d 30 0) ipv4) refl refl
  where
    by : (a b : Bool) → eqb (get_or d 30 0) null ≡ a → eqb (get_or d 30 0) ipv4 ≡ b → ipv4 < t
    by true b f g = let z : ◌≡◌ {A = ℕ} 0 1 = cc in omega arith
    by false true f g = let z : ◌≡◌ {A = ℕ} 0 1 = cc in omega arith
    by false false f g =
        let s : get_or d 30 0 ≡ t = cc in
        omega (arith, eqb-false (get_or d 30 0) null f, eqb-false (get_or d 30 0) ipv4 g)

-- if m is a Join, then it is this one
abbrev OnlyJoin : Join → Message → Type 0
OnlyJoin k m = (j : Join) → m ≡ message.Join j → j ≡ k

either : (b : Bool) {k : Join} {m n : Message} → OnlyJoin k m → OnlyJoin k n → OnlyJoin k (cond b m n)
either true h i = h
either false h i = i

join_read : (v : ℕ) (d : List ℕ) → OnlyJoin (layouts.join_of d) (message_of v d)
unfolding message_of fixed_of
join_read v d =
    either (eqb v reliable_wrapper) (λ j e. cc)
    (either (eqb v unreliable_wrapper) (λ j e. cc)
    (either (eqb v join) (λ j e. cc)
    (either (eqb v join_refuse) (λ j e. cc)
    (either (eqb v join_accept) (λ j e. cc)
    (either (eqb v leaving) (λ j e. cc)
    (either (eqb v ack) (λ j e. cc)
    (either (eqb v nak) (λ j e. cc) (λ j e. cc))))))))

pub read_proper : (v : ℕ) (d : List ℕ) → Proper (message_of v d)
unfolding layouts.join_of
read_proper v d j e = rw (join_read v d j e) (address_proper d)
