-- The messages that a member sends, as the code has them: each has a form and fits the room that is asked for, and a new member's Join
-- Accept and ACK come one right behind the other. Assumes nothing.
use Prim.Native.Nat.{ℕ, ◌+◌, ◌-◌, ◌≤◌}
use native.Mathlib.Omega.{arith}
use mathlib.Core.Path.{◌≡◌, refl, ◌∙◌}
use mathlib.Core.Bool.{true}
use mathlib.Core.List.{List, ◌++◌}
use lib.ListN.{length, take, drop}
use Rattle.counter.specs.declared.Reliable.{Reliable}
use Rattle.message.specs.declared.Cid.{Cid}
use Rattle.message.specs.declared.Join.{Join}
use Rattle.message.specs.declared.Message.{Message}
use Rattle.message.specs.declared.Message.TheVariants as message
use Rattle.record.specs.declared.Terms.{Terms}
use Rattle.joining.specs.Replies.{join_refuse_of, acceptance, departure, missing}
use Rattle.writing.specs.Writing.{address_of, has_form}
use Rattle.sending.specs.Sent.{Put, sent_of, welcome_of}
use Rattle.sending.proofs.Lengths.{ack_length, leaving_length, nak_length, refuse_length, accept_length}
use Rattle.sending.proofs.Puts.{both_put}

-- ---- each fits

-- what `put_message` asks of a message and a room of k octets
abbrev pub Fits : Message → ℕ → Type 0
Fits m k = (has_form m ≡ true) × (length (sent_of m) ≤ k)

pub ack_fits : (r : Reliable) (k : ℕ) → 7 ≤ k → Fits (message.Ack r) k
unfolding has_form address_of
ack_fits r k h = (refl, omega (arith, ack_length r))

module _ (m : Message) (k : ℕ) (h : 64 ≤ k) where
  pub leaving_fits : (t : Terms) (r : Reliable) (reason : ℕ) → m ≡ departure t r reason → Fits m k
  unfolding has_form address_of departure
  leaving_fits t r reason e = rw e (refl, omega (arith, leaving_length t r reason))

  pub nak_fits : (t : Terms) (r first last : Reliable) → m ≡ missing t r first last → Fits m k
  unfolding has_form address_of missing
  nak_fits t r first last e = rw e (refl, omega (arith, nak_length t r first last))

  pub refuse_fits : (owner : Cid) (j : Join) (reason : ℕ) → m ≡ join_refuse_of owner j reason → Fits m k
  unfolding has_form address_of join_refuse_of
  refuse_fits owner j reason e = rw e (refl, omega (arith, refuse_length owner j reason))

  pub accept_fits : (owner : Cid) (j : Join) (r : Reliable) (n : ℕ) → m ≡ acceptance owner j r n → Fits m k
  unfolding has_form address_of acceptance
  accept_fits owner j r n e = rw e (refl, omega (arith, accept_length owner j r n))

-- how many octets an ACK and a Join Accept took
pub ack_taken : (r : Reliable) (n : ℕ) → n ≡ length (sent_of (message.Ack r)) → n ≡ 7
ack_taken r n e = e ∙ ack_length r

pub accept_taken : (owner : Cid) (j : Join) (r : Reliable) (k : ℕ) (m : Message) (n : ℕ) → m ≡ acceptance owner j r k → n ≡ length (sent_of m)
    → n ≡ 29
accept_taken owner j r k m n f e = e ∙ (rw f (accept_length owner j r k))

-- ---- a new member's reply

-- the ACK, of i octets, goes right behind the Join Accept, of n
pub welcome_put : (owner : Cid) (j : Join) (own : ℕ) (r s t : List ℕ) (at n i k : ℕ) → 64 ≤ length r
    → Put (sent_of (acceptance owner j j.reliable own)) n r s
    → Put (sent_of (message.Ack j.reliable)) i (take (length s - at) (drop at s)) t
    → at ≡ n → k ≡ n + i
    → Put (welcome_of owner j own) k r (take at s ++ (t ++ drop (length s - at) (drop at s)))
unfolding welcome_of
welcome_put owner j own r s t at n i k h a b e f =
    rw f (both_put r s t _ _ at n i e (omega (arith, accept_taken owner j j.reliable own _ n refl a.0)) a b)
