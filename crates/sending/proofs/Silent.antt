-- When a member sends nothing: a wrapper's step or elapsed time that gives `Nothing`, and no other. Over the definitions; assumes nothing.
use Prim.Native.Nat.{ℕ, suc}
use native.Mathlib.Omega.{arith}
use mathlib.Core.Path.{◌≡◌, refl, ap}
use mathlib.Core.Logic.{◌↔◌}
use mathlib.Core.List.{List, []}
use lib.ListN.{length}
use Rattle.octets.specs.Octets.{octets}
use Rattle.record.specs.declared.Terms.{Terms}
use Rattle.gap.specs.declared.Event.{Event}
use Rattle.gap.specs.declared.Event.TheVariants as event
use Rattle.wrapper.specs.declared.Reply.{Reply}
use Rattle.wrapper.specs.declared.Reply.TheVariants as reply
use Rattle.writing.specs.Fields.{cid_octets, membership_octets, fields_of}
use Rattle.writing.specs.Writing.{carried_of, pdu_of}
use Rattle.joining.specs.Replies.{departure, missing}
use Rattle.sending.specs.Sent.{reply_of, event_of}

-- octets of a length that is not 0 are some
some : (xs : List ℕ) (n : ℕ) → length xs ≡ suc n → xs ≡ [] → ⊥
some xs n l e = absurd (omega (arith, l, ap length e))

pub reply_silent : (t : Terms) (x : Reply) → reply_of t x ≡ [] ↔ x ≡ reply.Nothing
unfolding octets cid_octets membership_octets fields_of carried_of pdu_of departure reply_of
reply_silent t x = (only x, λ e. rw e)
  where
    only : (x : Reply) → reply_of t x ≡ [] → x ≡ reply.Nothing
    only reply.Nothing e = refl
    only (reply.Ack r) e = absurd (some _ _ refl e)
    only (reply.Leaving reason r) e = absurd (some _ _ refl e)

pub event_silent : (t : Terms) (x : Event) → event_of t x ≡ [] ↔ x ≡ event.Nothing
unfolding octets cid_octets membership_octets fields_of carried_of pdu_of departure missing event_of
event_silent t x = (only x, λ e. rw e)
  where
    only : (x : Event) → event_of t x ≡ [] → x ≡ event.Nothing
    only event.Nothing e = refl
    only (event.Nak r first last outbound) e = absurd (some _ _ refl e)
    only (event.Leaving reason r) e = absurd (some _ _ refl e)
