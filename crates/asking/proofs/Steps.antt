-- What is known of a message that asks for a step of a record: whose record it is, and what the wrapper brings to the step. Assumes nothing.
use Prim.Native.Nat.{ℕ, ◌<◌, ◌≤◌}
use mathlib.Core.Bool.{Bool, true, false, cond}
use mathlib.Core.List.{List}
use mathlib.Core.Path.{◌≡◌, refl}
use native.Mathlib.Omega.{arith}
use lib.Dec.{ltb, eqb}
use Rattle.std.specs.Prelude.{Option, Some, None, Result, Ok, Err}
use lib.ListN.{length}
use borrow.Author.Tests.{ltb-false}
use Rattle.message.specs.Lengths.{reliable_wrapper}
use Rattle.message.specs.Layouts.{wrapper_of}
use Rattle.message.specs.Reading.{read_message, contents}
use Rattle.message.specs.declared.Cid.{Cid}
use Rattle.message.specs.declared.Join.{Join}
use Rattle.message.specs.declared.Message.{Message}
use Rattle.message.specs.declared.Wrapper.{Wrapper}
use Rattle.message.specs.declared.Message.TheVariants as message
use Rattle.record.specs.WellFormed.{most_contents}
use Rattle.record.specs.declared.Record.{Record}
use Rattle.refusal.specs.declared.Refusal.{Refusal}
use Rattle.refusal.specs.declared.Refusal.TheVariants as refusal
use Rattle.wrapper.specs.declared.Arrived.{Arrived}
use Rattle.table.specs.Table.{same, named, found, record_at}
use Rattle.table.proofs.Finding.{found_at_lem}
use Rattle.table.proofs.Tables.{named_is}
use Rattle.asking.specs.Asking.{arrived_of, wrapper_for, wrapper_asks, join_asks, read_asks, asked_of}
use Rattle.asking.specs.declared.Asked.TheVariants as asked
use Rattle.asking.proofs.Wrappers.{reliable_read, unreliable_read}

-- data d of vector v, from s, asks for a step of record i by w
pub record Step (ts : List Record) (s : Cid) (v : ℕ) (d : List ℕ) (i : ℕ) (w : Arrived) : Type 0 where
  pub finds : found s (wrapper_of d).channel ts ≡ Some i
  pub within : i < length ts
  pub used : (record_at ts i).used ≡ true
  pub named : named s (wrapper_of d).channel (record_at ts i) ≡ true
  pub wrapper : w ≡ arrived_of (eqb v reliable_wrapper) (wrapper_of d) (length (contents d))
  pub len : w.len ≡ length (contents d)
  pub fits : w.len ≤ most_contents
  pub own : 20 ≤ length d

module _ (ts : List Record) (s o : Cid) (i : ℕ) (w : Arrived) where
  refused_is_none : (n : Refusal) → Err n ≡ Ok (asked.Wrapper i w) → ⊥
  refused_is_none n e = let z : ◌≡◌ {A = ℕ} 0 1 = cc in omega arith

  join_is_none : (j : Join) → join_asks o j ≡ Ok (asked.Wrapper i w) → ⊥
  unfolding join_asks
  join_is_none j = by (same j.cid o)
    where
      by : (b : Bool) → cond b (Ok (asked.Join j)) (Err refusal.NotForUs) ≡ Ok (asked.Wrapper i w) → ⊥
      by true e = let z : ◌≡◌ {A = ℕ} 0 1 = cc in omega arith
      by false e = refused_is_none refusal.NotForUs e

  -- a wrapper asks for a step of the record that it found, and its contents fit
  wrapper_step_lem : (b : Bool) (x : Wrapper) (n : ℕ) → wrapper_asks ts s b x n ≡ Ok (asked.Wrapper i w)
      → (found s x.channel ts ≡ Some i) × (n ≤ most_contents) × (w ≡ arrived_of b x n)
  unfolding wrapper_asks
  wrapper_step_lem b x n e = by (found s x.channel ts) (ltb most_contents n) refl refl e
    where
      by : (f : Option ℕ) (t : Bool) → found s x.channel ts ≡ f → ltb most_contents n ≡ t → wrapper_for f b x n ≡ Ok (asked.Wrapper i w)
          → (found s x.channel ts ≡ Some i) × (n ≤ most_contents) × (w ≡ arrived_of b x n)
      by None t g h e = absurd (refused_is_none refusal.NoRecord e)
      by (Some j) true g h e = absurd (refused_is_none refusal.ContentsOver (rw h at e))
      by (Some j) false g h e =
          let q : Ok (asked.Wrapper j (arrived_of b x n)) ≡ Ok (asked.Wrapper i w) = rw h at e in
          (cc, ltb-false most_contents n h, cc)

  module _ (v : ℕ) (d : List ℕ) where
    step : (b : Bool) → eqb v reliable_wrapper ≡ b → 20 ≤ length d → wrapper_asks ts s b (wrapper_of d) (length (contents d)) ≡ Ok (asked.Wrapper i w)
        → Step ts s v d i w
    step b k l e =
        let q = wrapper_step_lem b (wrapper_of d) (length (contents d)) e in
        let f = found_at_lem s (wrapper_of d).channel ts i q.0 in
        let z : w.len ≡ length (contents d) = cc in
        record {
          finds = q.0;
          within = f.0;
          used = (named_is s (wrapper_of d).channel (record_at ts i) f.1).0;
          named = f.1;
          wrapper = rw k q.2;
          len = z;
          fits = let m = q.1 in omega arith;
          own = l;
        }

    pub asked_wrapper : asked_of ts s o v d ≡ Ok (asked.Wrapper i w) → Step ts s v d i w
    unfolding asked_of
    asked_wrapper e = from (read_message v d) refl e
      where
        from : (r : Result Message Refusal) → read_message v d ≡ r → read_asks ts s o r (length (contents d)) ≡ Ok (asked.Wrapper i w) → Step ts s v d i w
        from (Err why) g e = absurd (refused_is_none why e)
        from (Ok (message.ReliableWrapper x)) g e =
            let q = reliable_read v d x g in
            step true (rw q.0) q.2 (rw (← q.1) e)
        from (Ok (message.UnreliableWrapper x)) g e =
            let q = unreliable_read v d x g in
            step false (rw q.0) q.2 (rw (← q.1) e)
        from (Ok (message.Join j)) g e = absurd (join_is_none j e)
        from (Ok (message.JoinRefuse m reason)) g e = absurd (refused_is_none refusal.NotForUs e)
        from (Ok (message.JoinAccept m reciprocal)) g e = absurd (refused_is_none refusal.NotForUs e)
        from (Ok (message.Leaving m reason)) g e = absurd (refused_is_none refusal.NotForUs e)
        from (Ok (message.Ack r)) g e = absurd (refused_is_none refusal.NoForm e)
        from (Ok (message.Nak m first last)) g e = absurd (refused_is_none refusal.NotForUs e)
        from (Ok (message.GetSessions cid)) g e = absurd (refused_is_none refusal.NotForUs e)
