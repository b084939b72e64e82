-- What a message asks of the table, by what its vector and its data are: a readable wrapper asks by its channel (`asks_wrapper`), a readable
-- Join for itself (`asks_join`), and all else is refused (`asks`). Assumes nothing.
use Prim.Native.Nat.{ℕ}
use mathlib.Core.Bool.{Bool, true, false, cond, ◌||◌, false≢true}
use mathlib.Core.List.{List}
use mathlib.Core.Path.{◌≡◌, refl, subst}
use lib.Dec.{eqb}
use lib.ListN.{length, get_or}
use borrow.Author.Tests.{eqb-true}
use Rattle.std.specs.Prelude.{Result, Ok, Err}
use Rattle.octets.specs.Octets.{number_at}
use Rattle.message.specs.Lengths.{reliable_wrapper, unreliable_wrapper, join, join_refuse, join_accept, leaving, ack, nak}
use Rattle.message.specs.Layouts.{reliable, cid_at, membership_of, wrapper_of, join_of}
use Rattle.message.specs.Reading.{readable, fixed_of, message_of, read_message, contents}
use Rattle.message.specs.declared.Cid.{Cid}
use Rattle.message.specs.declared.Message.{Message}
use Rattle.message.specs.declared.Message.TheVariants as message
use Rattle.refusal.specs.declared.Refusal.{Refusal}
use Rattle.refusal.specs.declared.Refusal.TheVariants as refusal
use Rattle.record.specs.declared.Record.{Record}
use Rattle.asking.specs.Asking.{wrapper_asks, join_asks, message_asks, read_asks, asked_of}
use Rattle.asking.specs.declared.Asked.{Asked}
use Rattle.demands.specs.Refusals.{is_wrapper}

-- data d that is readable or not, of a vector v that is a reliable wrapper's, an unreliable one's, a Join's or none of these
abbrev read_as : ℕ → List ℕ → Bool → Bool → Bool → Bool → Result Message Refusal
read_as v d r x y z =
    cond r
    (Ok
    (cond x (message.ReliableWrapper (wrapper_of d))
    (cond y (message.UnreliableWrapper (wrapper_of d)) (cond z (message.Join (join_of d)) (fixed_of v d)))))
    (Err refusal.NoForm)

module _ (ts : List Record) (s o : Cid) (v : ℕ) (d : List ℕ) where
  pub asks_wrapper : readable v d ≡ true → is_wrapper v ≡ true
      → asked_of ts s o v d ≡ wrapper_asks ts s (eqb v reliable_wrapper) (wrapper_of d) (length (contents d))
  unfolding asked_of read_message message_of
  asks_wrapper e w = by (eqb v reliable_wrapper) (eqb v unreliable_wrapper) w
    where
      by : (x y : Bool) → x || y ≡ true
          → read_asks ts s o (read_as v d (readable v d) x y (eqb v join)) (length (contents d))
          ≡ wrapper_asks ts s x (wrapper_of d) (length (contents d))
      by true y h = rw e
      by false true h = rw e
      by false false h = absurd (false≢true h)

  pub asks_join : readable v d ≡ true → eqb v join ≡ true → asked_of ts s o v d ≡ join_asks o (join_of d)
  unfolding asked_of read_message message_of
  asks_join e f =
      let q : v ≡ join = eqb-true v join f in
      let g : readable join d ≡ true = rw q at e in
      rw (q, g)

-- what is asked, and of a message that asks for more than a refusal how it came to it
pub data Asks (ts : List Record) (s o : Cid) (v : ℕ) (d : List ℕ) : Result Asked Refusal → Type 0 where
  refuses : (why : Refusal) → Asks ts s o v d (Err why)
  joins : readable v d ≡ true → eqb v join ≡ true → Asks ts s o v d (join_asks o (join_of d))
  wraps : readable v d ≡ true → is_wrapper v ≡ true
      → Asks ts s o v d (wrapper_asks ts s (eqb v reliable_wrapper) (wrapper_of d) (length (contents d)))

module _ (ts : List Record) (s o : Cid) (v : ℕ) (d : List ℕ) where
  fixed_refuses : Asks ts s o v d (message_asks ts s o (fixed_of v d) (length (contents d)))
  unfolding fixed_of
  fixed_refuses = by (eqb v join_refuse) (eqb v join_accept) (eqb v leaving) (eqb v ack) (eqb v nak)
    where
      by : (a b c e f : Bool)
          → Asks ts s o v d
          (message_asks ts s o
          (cond a (message.JoinRefuse (membership_of d) (get_or d 24 0))
          (cond b (message.JoinAccept (membership_of d) (number_at d 24 2))
          (cond c (message.Leaving (membership_of d) (get_or d 24 0))
          (cond e (message.Ack (reliable (number_at d 0 4)))
          (cond f (message.Nak (membership_of d) (reliable (number_at d 24 4)) (reliable (number_at d 28 4)))
          (message.GetSessions (cid_at d 0)))))))
          (length (contents d)))
      by true b c e f = refuses refusal.NotForUs
      by false true c e f = refuses refusal.NotForUs
      by false false true e f = refuses refusal.NotForUs
      by false false false true f = refuses refusal.NoForm
      by false false false false true = refuses refusal.NotForUs
      by false false false false false = refuses refusal.NotForUs

  pub asks : Asks ts s o v d (asked_of ts s o v d)
  unfolding asked_of read_message message_of
  asks = by (readable v d) (eqb v reliable_wrapper) (eqb v unreliable_wrapper) (eqb v join) refl refl refl refl
    where
      wrapper : {b : Bool} → eqb v reliable_wrapper ≡ b → Asks ts s o v d (wrapper_asks ts s (eqb v reliable_wrapper) (wrapper_of d) (length (contents d)))
          → Asks ts s o v d (wrapper_asks ts s b (wrapper_of d) (length (contents d)))
      wrapper f = subst (λ (b : Bool). Asks ts s o v d (wrapper_asks ts s b (wrapper_of d) (length (contents d)))) f

      by : (r x y z : Bool) → readable v d ≡ r → eqb v reliable_wrapper ≡ x → eqb v unreliable_wrapper ≡ y → eqb v join ≡ z
          → Asks ts s o v d (read_asks ts s o (read_as v d r x y z) (length (contents d)))
      by false x y z e f g h = refuses refusal.NoForm
      by true true y z e f g h = wrapper f (wraps e (rw f))
      by true false true z e f g h = wrapper f (wraps e (rw (f, g)))
      by true false false true e f g h = joins e h
      by true false false false e f g h = fixed_refuses
