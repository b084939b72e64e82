-- What a message that is read as a wrapper is: its vector, its fields, and that its own 20 octets are there. Assumes nothing.
use Prim.Native.Nat.{ℕ, ◌≤◌}
use mathlib.Core.Bool.{Bool, true, false, cond}
use mathlib.Core.List.{List}
use mathlib.Core.Path.{◌≡◌, refl}
use lib.Dec.{eqb}
use lib.ListN.{length}
use borrow.Author.Tests.{eqb-true}
use Rattle.message.specs.Lengths.{reliable_wrapper, unreliable_wrapper, join, join_refuse, join_accept, leaving, ack, nak}
use Rattle.message.specs.Layouts.{wrapper_of}
use Rattle.message.specs.Reading.{readable, fixed_of, message_of, read_message}
use Rattle.message.specs.declared.Wrapper.{Wrapper}
use Rattle.message.specs.declared.Message.{Message}
use Rattle.message.specs.declared.Message.TheVariants as message
use Rattle.refusal.specs.declared.Refusal.{Refusal}
use Rattle.std.specs.Prelude.{Result, Ok}
use Rattle.message.proofs.Readable.{reliable_length, unreliable_length}
use Rattle.message.proofs.Arms.{answered}
use Rattle.message.proofs.Refused.{refused_exactly}
use Rattle.record.proofs.Choices.{each_case}

-- ---- which messages are wrappers

-- what is known of a message of vector v and data d, if it is a wrapper
abbrev Wrapped : ℕ → List ℕ → Message → Type 0
Wrapped v d (message.ReliableWrapper w) = (v ≡ reliable_wrapper) × (w ≡ wrapper_of d)
Wrapped v d (message.UnreliableWrapper w) = (v ≡ unreliable_wrapper) × (w ≡ wrapper_of d)
Wrapped v d (message.Join j) = Unit {0}
Wrapped v d (message.JoinRefuse m reason) = Unit {0}
Wrapped v d (message.JoinAccept m reciprocal) = Unit {0}
Wrapped v d (message.Leaving m reason) = Unit {0}
Wrapped v d (message.Ack r) = Unit {0}
Wrapped v d (message.Nak m first last) = Unit {0}
Wrapped v d (message.GetSessions cid) = Unit {0}

module _ (v : ℕ) (d : List ℕ) where
  -- one kind of message, or the kinds after it
  kind : (b : Bool) (x y : Message) → (b ≡ true → Wrapped v d x) → Wrapped v d y → Wrapped v d (cond b x y)
  kind b x y f g = each_case (Wrapped v d) b x y f (λ e. g)

  none_fixed : Wrapped v d (fixed_of v d)
  unfolding fixed_of
  none_fixed =
      kind (eqb v join_refuse) _ _ (λ e. tt)
      (kind (eqb v join_accept) _ _ (λ e. tt)
      (kind (eqb v leaving) _ _ (λ e. tt) (kind (eqb v ack) _ _ (λ e. tt) (kind (eqb v nak) _ _ (λ e. tt) tt))))

  wrapped : Wrapped v d (message_of v d)
  unfolding message_of
  wrapped =
      kind (eqb v reliable_wrapper) _ _ (λ e. (eqb-true v reliable_wrapper e, refl))
      (kind (eqb v unreliable_wrapper) _ _ (λ e. (eqb-true v unreliable_wrapper e, refl)) (kind (eqb v join) _ _ (λ e. tt) none_fixed))

  -- ---- what is read

  -- what is read is the message of its readable data
  read_is : (m : Message) → read_message v d ≡ Ok m → (readable v d ≡ true) × (message_of v d ≡ m)
  read_is m e = by (readable v d) refl
    where
      by : (t : Bool) → readable v d ≡ t → (readable v d ≡ true) × (message_of v d ≡ m)
      by true r = (r, cc (answered v d (message_of v d) r refl))
      by false r = let u = (refused_exactly v d).1 r in (cc, cc)

  pub reliable_read : (w : Wrapper) → read_message v d ≡ Ok (message.ReliableWrapper w)
      → (v ≡ reliable_wrapper) × (w ≡ wrapper_of d) × (20 ≤ length d)
  reliable_read w e =
      let r = read_is _ e in
      let x : Wrapped v d (message.ReliableWrapper w) = rw r.1 at wrapped in
      (x.0, x.1, reliable_length v d r.0 x.0)

  pub unreliable_read : (w : Wrapper) → read_message v d ≡ Ok (message.UnreliableWrapper w)
      → (v ≡ unreliable_wrapper) × (w ≡ wrapper_of d) × (20 ≤ length d)
  unreliable_read w e =
      let r = read_is _ e in
      let x : Wrapped v d (message.UnreliableWrapper w) = rw r.1 at wrapped in
      (x.0, x.1, unreliable_length v d r.0 x.0)

  -- the length, as the code that reads it has its facts
  module _ (r : Result Message Refusal) (e : r ≡ read_message v d) (m : Message) (f : r ≡ Ok m) (w : Wrapper) where
    pub reliable_long : m ≡ message.ReliableWrapper w → 20 ≤ length d
    reliable_long g = (reliable_read w (cc)).2

    pub unreliable_long : m ≡ message.UnreliableWrapper w → 20 ≤ length d
    unreliable_long g = (unreliable_read w (cc)).2

pub ruleset lengths = (reliable_long, unreliable_long)
