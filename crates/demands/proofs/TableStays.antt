-- Every call takes a well-formed table to a well-formed table (`table_stays`), and eight free records are well formed (`free_table_right`). It
-- assumes of the machine that its counters have 32 bits and that the data of messages are octets (`Sound`, `Lawful`).
use Prim.Native.Nat.{ℕ, zero, suc, ◌<◌}
use mathlib.Core.Bool.{Bool, true, false, cond}
use mathlib.Core.List.{List, [], ◌∷◌, map}
use mathlib.Core.Logic.{inl, inr}
use mathlib.Core.Path.{◌≡◌, refl, sym, ◌∙◌}
use native.Mathlib.Omega.{arith}
use lib.Dec.{lit<, eqb}
use lib.ListN.{length, set, replicate, length-set, length-map, get_or-replicate}
use Rattle.std.specs.Prelude.{Option, Some, None, is_some}
use Rattle.octets.specs.Octets.{Octets}
use Rattle.message.specs.Layouts.{cid_at, join_of}
use Rattle.message.specs.Reading.{contents}
use Rattle.message.specs.declared.Cid.{Cid}
use Rattle.message.specs.declared.Join.{Join}
use Rattle.message.specs.declared.Parameters.{Parameters}
use Rattle.record.specs.WellFormed.{well_formed}
use Rattle.record.specs.With.{freed}
use Rattle.record.specs.declared.Record.{Record}
use Rattle.record.specs.Places.{place_at, no_place}
use Rattle.gap.specs.Elapsed.{gives, elapsed_of}
use Rattle.gap.specs.declared.Event.TheVariants as event
use Rattle.gap.specs.declared.Elapsed.{Elapsed}
use Rattle.gap.proofs.Moves.{Move, stands, expires, lost, goes_on, moves}
use Rattle.gap.proofs.Stays.{elapsed_formed, terms_stay}
use Rattle.wrapper.specs.Taken.{taken}
use Rattle.wrapper.specs.declared.Arrived.{Arrived}
use Rattle.wrapper.proofs.Stays.{wrapper_stays}
use Rattle.joining.specs.Joining.{decided, new_record}
use Rattle.joining.specs.declared.Decision.{Decision}
use Rattle.joining.specs.declared.Decision.TheVariants as decision
use Rattle.joining.proofs.Made.{made_well_formed}
use Rattle.joining.proofs.Depends.{accepted_new}
use Rattle.table.specs.Table.{named, found, lowest_free, blank, free_table, record_at}
use Rattle.table.proofs.Finding.{found_at_lem, found_nowhere, free_at}
use Rattle.table.proofs.Tables.{TableFormed, formed, well_formed_lem, free_table_formed, named_is, is_named_lem, Stands, set_at, free_set_formed, same_set_formed, new_set_formed}
use Rattle.carry.proofs.OwnPlaces.{held_length}
use Rattle.carry.proofs.PlanFits.{plan_fits}
use Rattle.member.specs.Sizes.{table_size, held_size}
use Rattle.member.specs.Messages.{Outcome, existing_at, table_after, join_outcome, plan_outcome, message_outcome}
use Rattle.member.specs.Elapsing.{elapsed_outcome, passed_table}
use Rattle.member.specs.Leaving.{departing, leave_outcome}
use Rattle.demands.specs.Calls as calls
use Rattle.demands.specs.Calls.{Call, State, table_step, lent_as, Sound, Lawful, Right, Both}
use Rattle.demands.proofs.Lemmas.Kept.{terms_kept}
use Rattle.demands.proofs.Lemmas.Owned.{message_sizes_lem}
use Rattle.record.proofs.Choices.{never}
use Rattle.demands.proofs.Lemmas.Sounds.{sound_by, aside, taken_sound, elapsed_sound, made_sound}
use Rattle.demands.proofs.Lemmas.Brought.{wrapper_says, join_says}
use Rattle.demands.proofs.Lemmas.OneStep.{brought}
use Rattle.demands.proofs.Lemmas.Outcomes.{Carries, Sized, message_cases, leave_cases, elapsed_cases}

-- ---- a table of the machine's numbers

-- all that is right of a state but the size of its held octets, with the table place by place
record RightTable (ts : List Record) : Type 0 where
  formed : TableFormed ts
  eight : length ts ≡ table_size
  sound : (k : ℕ) → k < table_size → Sound (record_at ts k)

table_right : {s : State} → Right s → RightTable s.table
table_right {s} r = record { formed = formed s.table r.formed; eight = r.eight; sound = r.sound }

state_right : {ts : List Record} {held : List ℕ} → RightTable ts → length held ≡ held_size → Right (record { table = ts; held = held })
state_right {ts} t h = record { formed = well_formed_lem ts t.formed; eight = t.eight; sound = t.sound; size = h }

module _ {ts : List Record} (t : RightTable ts) where
  sound_at : (i : ℕ) → i < length ts → Sound (record_at ts i)
  sound_at i h = t.sound i (rw t.eight at h)

  -- a record of the machine's numbers is stored
  set_right : (i : ℕ) (r : Record) → i < length ts → TableFormed (set ts i r) → Sound r → RightTable (set ts i r)
  set_right i r h f s = record { formed = f; eight = length-set ts i r ∙ t.eight; sound = λ k l. by k l (set_at ts i r h k) }
    where
      by : (k : ℕ) → k < table_size → Stands ts i r k → Sound (record_at (set ts i r) k)
      by k l (inl q) = rw q.1 s
      by k l (inr q) = rw q.1 (t.sound k l)

-- ---- a leave call

leave_right : (ts : List Record) (reply : ℕ) (owner : List ℕ) (channel reason : ℕ) → RightTable ts
    → RightTable (leave_outcome ts reply owner channel reason).table
unfolding departing
leave_right ts reply owner channel reason t =
    leave_cases ts reply owner channel reason (λ p. RightTable p.table) (λ why. t)
    (λ i l e q.
    let h = (found_at_lem (cid_at owner 0) channel ts i e).0 in
    let r = freed (record_at ts i) in
    set_right t i r h (free_set_formed ts i r h t.formed refl) (aside (sound_at t i h) _ _ _ _))

-- ---- an elapsed call

-- s is what became of r: the same channel, or none any more
record Goes (r s : Record) : Type 0 where
  formed : well_formed s ≡ true
  used : s.used ≡ true → r.used ≡ true
  terms : s.terms ≡ r.terms

named_before : {r s : Record} → Goes r s → (o : Cid) (c : ℕ) → named o c s ≡ true → named o c r ≡ true
named_before {r} {s} g o c n =
    let w = named_is o c s n in
    is_named_lem o c r (g.used w.0, cc, cc)

elapsed_used : {r : Record} {ms : ℕ} {o : Elapsed} → Move r ms o → o.after.used ≡ true → r.used ≡ true
elapsed_used (stands u) e = e
elapsed_used (expires u x) e = u
elapsed_used (lost u x g l c) e = u
elapsed_used (goes_on u x n) e = u

elapsed_goes : (r : Record) (ms : ℕ) → well_formed r ≡ true → Goes r (elapsed_of r ms).after
elapsed_goes r ms w = record { formed = elapsed_formed r ms w; used = elapsed_used (moves r ms); terms = terms_stay r ms }

-- each record by itself; the free one past the table stands
module _ (each : Record → Elapsed) (past : (each (blank [])).after ≡ blank []) where
  abbrev after : List Record → List Record
  after ts = map (λ e. e.after) (map each ts)

  after_at : (ts : List Record) (k : ℕ) → record_at (after ts) k ≡ (each (record_at ts k)).after
  after_at [] k = sym past
  after_at (r ∷ ts) zero = refl
  after_at (r ∷ ts) (suc k) = after_at ts k

  module _
      (goes : (r : Record) → well_formed r ≡ true → Goes r (each r).after)
      (sounds : (r : Record) → Sound r → Sound (each r).after)
    where
      after_right : (ts : List Record) → RightTable ts → RightTable (after ts)
      after_right ts t =
          record {
            formed =
                record {
                  each = λ k. (goes_at k).formed;
                  differ = λ o c i j u v. t.formed.differ o c i j (named_before (goes_at i) o c u) (named_before (goes_at j) o c v);
                };
            eight = length-map (map each ts) _ ∙ length-map ts each ∙ t.eight;
            sound = λ k l. rw (after_at ts k) (sounds (record_at ts k) (t.sound k l));
          }
        where
          goes_at : (k : ℕ) → Goes (record_at ts k) (record_at (after ts) k)
          goes_at k = rw (after_at ts k) (goes (record_at ts k) (t.formed.each k))

elapsed_right : (ts : List Record) (cells ms : ℕ) → RightTable ts → RightTable (passed_table (elapsed_outcome ts cells ms))
unfolding elapsed_of
elapsed_right ts cells ms t =
    elapsed_cases ts cells ms (λ p. RightTable (passed_table p))
    (λ why. after_right (λ r. gives r event.Nothing) refl (λ r w. record { formed = w; used = λ u. u; terms = refl }) (λ r s. s) ts t)
    (after_right (λ r. elapsed_of r ms) refl (λ r. elapsed_goes r ms) (λ r. elapsed_sound r ms) ts t)

-- ---- a message call

-- the table stays right, and the held octets are as many as they were
record Keeps (held : List ℕ) (out : Outcome) : Type 0 where
  table : RightTable out.table
  size : length out.held ≡ length held

module _ {ts : List Record} (t : RightTable ts) (held : List ℕ) where
  -- a Join that makes a record finds none of its owner and channel
  new_channel : (s : Cid) (j : Join) (n : ℕ) (p : Parameters) (free : Bool)
      → decided j (existing_at ts (found s j.channel ts)) n free ≡ decision.Make p
      → (k : ℕ) → named s j.channel (record_at ts k) ≡ false
  new_channel s j n p free e =
      found_nowhere s j.channel ts
      (by (found s j.channel ts) ((accepted_new j (existing_at ts (found s j.channel ts)) n free p).0 e).2)
    where
      by : (f : Option ℕ) → existing_at ts f ≡ None → f ≡ None
      by None u = refl
      by (Some i) u = never (cc)

  made_right : (s : Cid) (j : Join) (n : ℕ) → Both j.total j.reliable → (d : Decision) (f : Option ℕ) (free : Bool)
      → decided j (existing_at ts (found s j.channel ts)) n free ≡ d → lowest_free ts ≡ f → RightTable (table_after ts s j n d f)
  unfolding new_record
  made_right s j n b (decision.Refuse reason) f free e g = t
  made_right s j n b (decision.Again r reciprocal) f free e g = t
  made_right s j n b (decision.Make p) None free e g = t
  made_right s j n b (decision.Make p) (Some i) free e g =
      let h = (free_at ts i g).0 in
      let r = new_record (record_at ts i) s j p n in
      let w = made_well_formed (record_at ts i) s j _ p n free e in
      set_right t i r h
      (new_set_formed ts i r h t.formed w (new_channel s j n p free e))
      (made_sound (record_at ts i) s j p n (sound_at t i h) b)

  join_keeps : (s : Cid) (j : Join) (n : ℕ) → Both j.total j.reliable → Keeps held (join_outcome ts held s j n)
  unfolding join_outcome
  join_keeps s j n b = record { table = made_right s j n b _ (lowest_free ts) (is_some (lowest_free ts)) refl refl; size = refl }

  message_keeps : (deliver reply : ℕ) (sender ours : List ℕ) (v : ℕ) (d : List ℕ) (n : ℕ) → Octets d
      → Keeps held (message_outcome ts held deliver reply sender ours v d n)
  unfolding plan_outcome
  message_keeps deliver reply sender ours v d n o =
      message_cases ts held deliver reply sender ours v d n (Keeps held) (λ why. record { table = t; size = refl })
      (join_keeps (cid_at sender 0) (join_of d) n (join_says v d o)) plan_keeps
    where
      w : Arrived
      w = brought v d

      plan_keeps : Sized ts held deliver reply sender ours v d n → (i : ℕ) → Carries ts (cid_at sender 0) v d i
          → Keeps held (plan_outcome ts held i w (contents d) (taken (record_at ts i) w))
      plan_keeps sized i carries =
          let r = record_at ts i in
          let s = sound_at t i carries.within in
          let well = t.formed.each i in
          let plan = taken r w in
          let b = wrapper_says v d o in
          let after-formed = wrapper_stays r w well carries.used s.four s.reliable (λ j u. s.held j) b.1 carries.most plan carries.fresh in
          let eight : length ts ≡ 8 = t.eight in
          record {
            table =
                set_right t i plan.after carries.within
                (same_set_formed ts i plan.after carries.within t.formed after-formed carries.used (terms_kept r w))
                (taken_sound r w s b);
            size =
                held_length i plan.fate (contents d) held (omega (arith, carries.within)) (plan_fits r w carries.used well s.four carries.most).place carries.most
                (message_sizes_lem _ _ deliver reply _ _ sized).0;
          }

-- ---- every call

pub table_stays : (s : State) (c : Call) → Right s → Lawful c → Right (table_step s c).state
unfolding table_step
table_stays s (calls.message held deliver reply sender ours v d n) right lawful =
    let k = message_keeps (table_right right) (lent_as held s.held) deliver reply sender ours v d n lawful in
    state_right k.table (by (eqb held (length s.held)) _ k.size)
  where
    by : (b : Bool) (after : List ℕ) → length after ≡ length (cond b s.held (replicate held 0))
        → length (cond b after s.held) ≡ held_size
    by true after e = e ∙ right.size
    by false after e = right.size
table_stays s (calls.elapsed cells ms) right lawful = state_right (elapsed_right s.table cells ms (table_right right)) right.size
table_stays s (calls.leave reply owner channel reason) right lawful =
    state_right (leave_right s.table reply owner channel reason (table_right right)) right.size

-- ---- the first table

fresh_at : (n j : ℕ) → place_at (replicate n no_place) j ≡ no_place
fresh_at zero j = refl
fresh_at (suc n) zero = refl
fresh_at (suc n) (suc j) = fresh_at n j

fresh_sound : Sound (blank (replicate 4 no_place))
fresh_sound =
    sound_by refl (lit< tt, lit< tt) (lit< tt) (lit< tt) (λ j. rw (fresh_at 4 j) (lit< tt, lit< tt))

pub free_table_right : (held : List ℕ) → length held ≡ held_size → Right (record { table = free_table; held = held })
unfolding free_table
free_table_right held size =
    record {
      formed = free_table_formed;
      eight = refl;
      sound = λ k l. rw (get_or-replicate 8 k (blank (replicate 4 no_place)) (blank []) l) fresh_sound;
      size = size;
    }
