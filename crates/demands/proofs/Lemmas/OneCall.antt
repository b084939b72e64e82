-- A call over the table as seen from the channel in record i: one of its own does to the channel what the channel does by itself (`call_own`),
-- and any other leaves it (`call_other`). Assumes of the state that it is right and that record i has the channel.
use Prim.Native.Nat.{ℕ}
use mathlib.Core.Bool.{Bool, true, false, cond, not, ◌&&◌, and-eq-true_iff, false≢true}
use mathlib.Core.List.{List, []}
use mathlib.Core.Path.{◌≡◌, refl, sym, ap, ◌∙◌}
use native.Mathlib.Omega.{arith}
use lib.Dec.{ltb, eqb}
use lib.ListN.{length, get_or-map}
use borrow.Author.Tests.{eqb-true, eq-eqb}
use Rattle.std.specs.Prelude.{Option, Some}
use Rattle.message.specs.Layouts.{cid_at}
use Rattle.message.specs.declared.Cid.{Cid}
use Rattle.refusal.specs.declared.Refusal.TheVariants as refusal
use Rattle.record.specs.Reasons.{leaving_reason}
use Rattle.record.specs.With.{freed}
use Rattle.record.specs.declared.Record.{Record}
use Rattle.gap.specs.Elapsed.{gives, elapsed_of}
use Rattle.gap.specs.declared.Event.TheVariants as event
use Rattle.gap.specs.declared.Elapsed.{Elapsed}
use Rattle.joining.specs.Replies.{departure}
use Rattle.table.specs.Table.{named, found, record_at, blank}
use Rattle.table.proofs.Tables.{set_there, set_here}
use Rattle.sending.specs.Sent.{sent_of}
use Rattle.member.specs.Sizes.{elapsed_sizes, leave_sizes, table_size}
use Rattle.member.specs.Elapsing.{longest, Passing, refused_elapsed, passing, elapsed_outcome, passed_table, sent_by}
use Rattle.member.specs.Leaving.{Departing, refused_leave, departing, leave_for, leave_outcome}
use Rattle.demands.specs.Runs.{Came}
use Rattle.demands.specs.Calls as calls
use Rattle.demands.specs.Calls.{Call, State, elapsed_came, leave_came, table_step, Right}
use Rattle.demands.specs.Channel as channels
use Rattle.demands.specs.Channel.{Channel, Told, refused, left, stays, elapsed_on, leave_on, one, is_cid, own, entry_at, channel_at, view_at, slab}
use Rattle.demands.proofs.Lemmas.Lists.{standing}
use Rattle.demands.proofs.Lemmas.Owned.{sender_is, is_sender, leave_sizes_lem, Has, it_has, meets}
use Rattle.demands.proofs.Lemmas.Outcomes.{leave_cases}
use Rattle.demands.proofs.Lemmas.OneMessage.{message_own, message_other}

-- ---- elapsed time

module _ (s : State) (right : Right s) (cells ms : ℕ) where
  elapsed_accepted : elapsed_sizes table_size cells && not (ltb longest ms) ≡ true → elapsed_outcome s.table cells ms ≡ passing s.table ms
  unfolding elapsed_outcome
  elapsed_accepted e = rw (right.eight, right.formed) (by (elapsed_sizes table_size cells) (ltb longest ms) e)
    where
      by : (a b : Bool) → a && not b ≡ true
          → cond (not a) (refused_elapsed s.table refusal.WrongSize) (cond b (refused_elapsed s.table refusal.TooMuchTime) (passing s.table ms)) ≡ passing s.table ms
      by true true e = absurd (false≢true e)
      by true false e = refl
      by false b e = absurd (false≢true e)

  elapsed_refused : elapsed_sizes table_size cells && not (ltb longest ms) ≡ false → passed_table (elapsed_outcome s.table cells ms) ≡ s.table
  unfolding elapsed_outcome
  elapsed_refused e = rw (right.eight, right.formed) (by (elapsed_sizes table_size cells) (ltb longest ms) e)
    where
      by : (a b : Bool) → a && not b ≡ false
          → passed_table (cond (not a) (refused_elapsed s.table refusal.WrongSize) (cond b (refused_elapsed s.table refusal.TooMuchTime) (passing s.table ms))) ≡ s.table
      by true true e = standing s.table
      by true false e = absurd (false≢true (sym e))
      by false b e = standing s.table

  module _ (i : ℕ) where
    -- the record's own entry
    entry : entry_at (passing s.table ms) i ≡ elapsed_of (record_at s.table i) ms
    unfolding elapsed_of
    entry = get_or-map (λ (r : Record). elapsed_of r ms) s.table i (blank [])

    elapsed_seen : view_at i (elapsed_came s (passing s.table ms)) ≡ elapsed_on (channel_at i s) ms
    unfolding view_at channel_at elapsed_on
    elapsed_seen =
        ap (λ (r : Record). seen r (entry_at (passing s.table ms) i))
        (get_or-map (λ (e : Elapsed). e.after) (passing s.table ms).each i (gives (blank []) event.Nothing))
        ∙ ap (λ (e : Elapsed). seen e.after e) entry
      where
        seen : Record → Elapsed → Came Channel Told
        seen r e = record { state = record { at = r; held = slab i s.held }; answer = channels.passed e.event (sent_by e) }

    pub elapsed_own : (owner : Cid) (channel : ℕ) → own owner channel (calls.elapsed cells ms) ≡ true
        → view_at i (table_step s (calls.elapsed cells ms)) ≡ one owner (channel_at i s) (calls.elapsed cells ms)
    unfolding own one table_step
    elapsed_own owner channel e = ap (λ (p : Passing). view_at i (elapsed_came s p)) (elapsed_accepted e) ∙ elapsed_seen

    pub elapsed_other : (owner : Cid) (channel : ℕ) → own owner channel (calls.elapsed cells ms) ≡ false
        → channel_at i (table_step s (calls.elapsed cells ms)).state ≡ channel_at i s
    unfolding own table_step channel_at
    elapsed_other owner channel e =
        ap (λ (ts : List Record). record { at = record_at ts i; held = slab i s.held }) (elapsed_refused e)

-- ---- leave calls

module _ (i : ℕ) (owner : Cid) (channel : ℕ) (s : State) (right : Right s) (has : named owner channel (record_at s.table i) ≡ true) where
  it : Has i owner channel s right has
  it = it_has i owner channel s right has

  module _ (reply : ℕ) (sender : List ℕ) (name reason : ℕ) where
    -- a right table refuses nothing but sizes before it searches
    leave_comes : leave_outcome s.table reply sender name reason
        ≡ cond (leave_sizes table_size reply (length sender)) (leave_for s.table reason (found (cid_at sender 0) name s.table)) (refused_leave s.table refusal.WrongSize)
    unfolding leave_outcome
    leave_comes = rw (right.eight, right.formed) (by (leave_sizes table_size reply (length sender)))
      where
        by : (b : Bool)
            → cond (not b) (refused_leave s.table refusal.WrongSize) (leave_for s.table reason (found (cid_at sender 0) name s.table))
            ≡ cond b (leave_for s.table reason (found (cid_at sender 0) name s.table)) (refused_leave s.table refusal.WrongSize)
        by true = refl
        by false = refl

    -- record i is left
    leaves_own : view_at i (leave_came s (leave_for s.table reason (Some i))) ≡ leave_on (channel_at i s) reason
    unfolding view_at channel_at leave_on departing
    leaves_own = by (leaving_reason reason)
      where
        seen : Record → Came Channel Told
        seen r =
            record {
              state = record { at = r; held = slab i s.held };
              answer = left (sent_of (departure (record_at s.table i).terms (record_at s.table i).reliable reason));
            }

        by : (b : Bool)
            → view_at i (leave_came s (cond b (departing s.table i reason) (refused_leave s.table refusal.WrongReason)))
            ≡ cond b (seen (freed (record_at s.table i))) (stays (channel_at i s) (refused refusal.WrongReason))
        by true = ap seen (set_here s.table i (freed (record_at s.table i)) (omega (arith, it.below, right.eight)))
        by false = refl

    leave_own : own owner channel (calls.leave reply sender name reason) ≡ true
        → view_at i (table_step s (calls.leave reply sender name reason)) ≡ one owner (channel_at i s) (calls.leave reply sender name reason)
    unfolding own one table_step view_at
    leave_own e = ap (λ (p : Departing). view_at i (leave_came s p)) leave_comes ∙ by (leave_sizes table_size reply (length sender))
      where
        mine : (is_cid owner sender ≡ true) × (eqb name channel ≡ true)
        mine = (and-eq-true_iff (is_cid owner sender) (eqb name channel)).0 e

        finds : found (cid_at sender 0) name s.table ≡ Some i
        finds =
            ap (λ (o : Cid). found o name s.table) (sender_is owner sender mine.0)
            ∙ ap (λ (c : ℕ). found owner c s.table) (eqb-true name channel mine.1)
            ∙ it.finds

        by : (b : Bool)
            → view_at i (leave_came s (cond b (leave_for s.table reason (found (cid_at sender 0) name s.table)) (refused_leave s.table refusal.WrongSize)))
            ≡ cond b (leave_on (channel_at i s) reason) (stays (channel_at i s) (refused refusal.WrongSize))
        by true = ap (λ (f : Option ℕ). view_at i (leave_came s (leave_for s.table reason f))) finds ∙ leaves_own
        by false = refl

    -- a call that meets record i is the channel's own, so another leaves another record
    leave_other : own owner channel (calls.leave reply sender name reason) ≡ false
        → channel_at i (table_step s (calls.leave reply sender name reason)).state ≡ channel_at i s
    unfolding own table_step channel_at departing
    leave_other other =
        leave_cases s.table reply sender name reason (λ p. channel_at i (leave_came s p).state ≡ channel_at i s) (λ why. refl)
        (λ k l f q.
        ap (λ (r : Record). record { at = r; held = slab i s.held })
        (set_there s.table k (freed (record_at s.table k)) i
        (λ e.
        let m = meets i owner channel s right has (cid_at sender 0) name (f ∙ ap Some e) in
        false≢true
        (sym other
        ∙ (and-eq-true_iff (is_cid owner sender) (eqb name channel)).1
        (is_sender owner sender (leave_sizes_lem _ reply (length sender) l) m.0, eq-eqb name channel m.1)))))

  -- ---- every call

  pub call_own : (c : Call) → own owner channel c ≡ true → view_at i (table_step s c) ≡ one owner (channel_at i s) c
  call_own (calls.message held deliver reply sender ours v d n) e =
      message_own i owner channel s right has held deliver reply sender ours v d n e
  call_own (calls.elapsed cells ms) e = elapsed_own s right cells ms i owner channel e
  call_own (calls.leave reply sender name reason) e = leave_own reply sender name reason e

  pub call_other : (c : Call) → own owner channel c ≡ false → channel_at i (table_step s c).state ≡ channel_at i s
  call_other (calls.message held deliver reply sender ours v d n) e =
      message_other i owner channel s right has held deliver reply sender ours v d n e
  call_other (calls.elapsed cells ms) e = elapsed_other s right cells ms i owner channel e
  call_other (calls.leave reply sender name reason) e = leave_other reply sender name reason e
