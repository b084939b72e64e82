-- What a leave call comes to, over plain variables: its refusals, and the record that is left. Assumes nothing.
use Prim.Native.Nat.{ℕ}
use mathlib.Core.Bool.{Bool, true, false, not}
use mathlib.Core.List.{List}
use mathlib.Core.Logic.{◌≢◌}
use mathlib.Core.Path.{◌≡◌}
use lib.ListN.{length, set}
use borrow.Author.Tests.{not-true, not-false, eq-eqb, ne_eqb}
use Rattle.std.specs.Prelude.{Option, Some, None, Result, Ok, Err}
use Rattle.std.specs.Array.{IsWholeChunk}
use Rattle.octets.specs.Octets.{splice}
use Rattle.octets.proofs.Writes.{splice_nothing}
use Rattle.message.specs.Layouts.{cid_at}
use Rattle.message.specs.declared.Cid.{Cid}
use Rattle.record.specs.Reasons.{leaving_reason}
use Rattle.record.specs.With.{freed}
use Rattle.record.specs.declared.Record.{Record}
use Rattle.refusal.specs.declared.Refusal.{Refusal}
use Rattle.refusal.specs.declared.Refusal.TheVariants as refusal
use Rattle.joining.specs.Replies.{departure}
use Rattle.table.specs.Table.{found, table_formed, record_at}
use Rattle.sending.specs.Sent.{sent_of}
use Rattle.member.specs.Sizes.{reply_size, cid_size, leave_sizes}
use Rattle.member.specs.Leaving.{Departing, refused_leave, departing, leave_for, leave_outcome, left, left_reply, LeaveEndsAs}
use Rattle.member.specs.declared.Left.{Left}

-- what a call answers and leaves in the reply room, which was `room`
abbrev pub Departed : Departing → Result Left Refusal → List ℕ → List ℕ → Type 0
Departed p a room after = LeaveEndsAs p room (record { answer = a; reply = after })

-- from its two parts
departed_by : (p : Departing) (a : Result Left Refusal) (room after : List ℕ) → a ≡ left p → after ≡ left_reply p room → Departed p a room after
departed_by p a room after e f = λ i. record { answer = e i; reply = f i }

refused : (ts : List Record) (why : Refusal) (a : Result Left Refusal) (room : List ℕ) → a ≡ Err why → Departed (refused_leave ts why) a room room
refused ts why a room e = departed_by (refused_leave ts why) a room room e (splice_nothing room 0)

-- ---- the record that is left

pub departed : (ts : List Record) (i reason n : ℕ) (r : Record) (room after : List ℕ) → r ≡ freed (record_at ts i)
    → (n ≡ length (sent_of (departure (record_at ts i).terms (record_at ts i).reliable reason)))
    × (after ≡ splice room 0 (sent_of (departure (record_at ts i).terms (record_at ts i).reliable reason)))
    → Departed (departing ts i reason) (Ok (record { table = set ts i r; at = i; reply = n })) room after
unfolding departing
departed ts i reason n r room after f p = departed_by (departing ts i reason) _ room after (rw (f, p.0)) p.1

-- ---- refusals 6 and 10

module _ (ts : List Record) (reason : ℕ) (o : Cid) (c : ℕ) (f : Option ℕ) (e : f ≡ found o c ts) (a : Result Left Refusal) (room : List ℕ) where
  pub leave_unknown : f ≡ None → a ≡ Err refusal.NoRecord → Departed (leave_for ts reason (found o c ts)) a room room
  leave_unknown u g = rw (← e, u) (refused ts refusal.NoRecord a room g)

  module _ (i : ℕ) (u : f ≡ Some i) (b : Bool) (h : b ≡ leaving_reason reason) where
    pub leave_unreasoned : not b ≡ true → a ≡ Err refusal.WrongReason → Departed (leave_for ts reason (found o c ts)) a room room
    leave_unreasoned t g = rw (← e, u, ← h, not-true b t) (refused ts refusal.WrongReason a room g)

    pub leave_taken : not b ≡ false → (after : List ℕ) → Departed (departing ts i reason) a room after
        → Departed (leave_for ts reason (found o c ts)) a room after
    leave_taken t after g = rw (← e, u, ← h, not-false b t) g

-- ---- refusals 1 and 2

module _ (ts : List Record) (l : length ts ≡ 8) (room owner : List ℕ) (c reason : ℕ) (a : Result Left Refusal) where
  abbrev Call : List ℕ → Type 0
  Call after = Departed (leave_outcome ts (length room) owner c reason) a room after

  pub leave_reply_size : length room ≢ reply_size → a ≡ Err refusal.WrongSize → Call room
  unfolding leave_outcome leave_sizes
  leave_reply_size h e = rw (eq-eqb (length ts) 8 l, ne_eqb (length room) reply_size h) (refused ts refusal.WrongSize a room e)

  -- the reply room is taken as it was
  module _ (lent : List ℕ) (s : IsWholeChunk room lent reply_size) where
    as_lent : (p : Departing) (after : List ℕ) → Departed p a lent after → Departed p a room after
    as_lent p after d = rw s.same at d

    pub leave_owner_size : length owner ≢ cid_size → a ≡ Err refusal.WrongSize → Call lent
    unfolding leave_outcome leave_sizes
    leave_owner_size h e =
        rw (eq-eqb (length ts) 8 l, eq-eqb (length room) reply_size s.long, ne_eqb (length owner) cid_size h)
        (as_lent (refused_leave ts refusal.WrongSize) lent (refused ts refusal.WrongSize a lent e))

    module _ (own : List ℕ) (k : IsWholeChunk owner own cid_size) (b : Bool) (f : b ≡ table_formed ts) where
      pub leave_unformed : not b ≡ true → a ≡ Err refusal.WrongTable → Call lent
      unfolding leave_outcome leave_sizes
      leave_unformed t e =
          rw (eq-eqb (length ts) 8 l, eq-eqb (length room) reply_size s.long, eq-eqb (length owner) cid_size k.long, ← f, not-true b t)
          (as_lent (refused_leave ts refusal.WrongTable) lent (refused ts refusal.WrongTable a lent e))

      pub leave_asked : not b ≡ false → (o : Cid) (after : List ℕ) → o ≡ cid_at own 0 → Departed (leave_for ts reason (found o c ts)) a lent after
          → Call after
      unfolding leave_outcome leave_sizes
      leave_asked t o after q e =
          rw (eq-eqb (length ts) 8 l, eq-eqb (length room) reply_size s.long, eq-eqb (length owner) cid_size k.long, ← f, not-false b t, ← k.same, ← q)
          (as_lent _ after e)
