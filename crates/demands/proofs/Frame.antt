-- A call that moves one record leaves all others: the other records of the table, and every octet of their places (`message_frame`, `leave_frame`); an elapsed call
-- that is accepted gives each record what its own time makes of it (`elapsed_frame`). The first assumes a well-formed table of the machine's numbers (`Right`), the others nothing.
use Prim.Native.Nat.{ℕ, zero, suc, ◌<◌}
use mathlib.Core.List.{List, [], ◌∷◌}
use mathlib.Core.Logic.{◌≢◌}
use mathlib.Core.Path.{◌≡◌, refl, sym, ap}
use native.Mathlib.Omega.{arith}
use Rattle.std.specs.Prelude.{Option, Some, None, Ok}
use Rattle.message.specs.Layouts.{cid_at, join_of}
use Rattle.message.specs.Reading.{contents}
use Rattle.message.specs.declared.Cid.{Cid}
use Rattle.message.specs.declared.Join.{Join}
use Rattle.record.specs.declared.Record.{Record}
use Rattle.gap.specs.Elapsed.{elapsed_of}
use Rattle.wrapper.specs.Taken.{taken}
use Rattle.joining.specs.declared.Decision.{Decision}
use Rattle.joining.specs.declared.Decision.TheVariants as decision
use Rattle.table.specs.Table.{record_at}
use Rattle.table.proofs.Tables.{set_there}
use Rattle.carry.proofs.PlanFits.{taking}
use Rattle.member.specs.Elapsing.{passing, passed_table}
use Rattle.member.specs.Leaving.{departing, leave_outcome}
use Rattle.member.specs.Messages.{Outcome, join_done, join_outcome, plan_outcome, message_outcome}
use Rattle.demands.specs.Calls.{State, Right}
use Rattle.demands.specs.Frame.{moved, Still}
use Rattle.demands.proofs.Lemmas.Slabs.{slab_other}
use Rattle.demands.proofs.Lemmas.OneStep.{brought}
use Rattle.demands.proofs.Lemmas.Outcomes.{Carries, message_cases, leave_cases}

module _ (s : State) (right : Right s) (k : ℕ) where
  -- record k stands, if it is not the one that moves
  abbrev Frame : Outcome → Type 0
  Frame out = moved out.given ≢ Some k → Still s.table s.held k out

  -- every other record and its held octets stand
  pub message_frame : (deliver reply : ℕ) (sender ours : List ℕ) (v : ℕ) (d : List ℕ) (n : ℕ)
      → moved (message_outcome s.table s.held deliver reply sender ours v d n).given ≢ Some k
      → Still s.table s.held k (message_outcome s.table s.held deliver reply sender ours v d n)
  unfolding join_outcome plan_outcome
  message_frame deliver reply sender ours v d n =
      message_cases s.table s.held deliver reply sender ours v d n Frame (λ why z. record { at = refl; places = refl })
      (join_still (cid_at sender 0) (join_of d) n _ _ _) (λ sized i carries. plan_still i carries)
    where
      join_still : (c : Cid) (j : Join) (n : ℕ) (known free : Option ℕ) (a : Decision) → Frame (join_done s.table s.held c j n known free a)
      join_still c j n known free (decision.Refuse reason) z = record { at = refl; places = refl }
      join_still c j n known free (decision.Again r reciprocal) z = record { at = refl; places = refl }
      join_still c j n known (Some i) (decision.Make p) z = record { at = set_there s.table i _ k (λ e. z (ap Some e)); places = refl }
      join_still c j n known None (decision.Make p) z = record { at = refl; places = refl }

      plan_still : (i : ℕ) → Carries s.table (cid_at sender 0) v d i
          → Frame (plan_outcome s.table s.held i (brought v d) (contents d) (taken (record_at s.table i) (brought v d)))
      plan_still i carries z =
          let below : i < 8 = omega (arith, carries.within, right.eight) in
          record {
            at = set_there s.table i _ k (λ e. z (ap Some e));
            places =
                slab_other i (taken (record_at s.table i) (brought v d)).fate (contents d) s.held below
                (taking (record_at s.table i) (brought v d) (right.sound i below).four).below carries.most right.size k
                (λ e. z (ap Some (sym e)));
          }

-- ---- leave and elapsed calls

pub leave_frame : (ts : List Record) (reply : ℕ) (owner : List ℕ) (channel reason k : ℕ)
    → (leave_outcome ts reply owner channel reason).given ≢ Ok k
    → record_at (leave_outcome ts reply owner channel reason).table k ≡ record_at ts k
unfolding departing
leave_frame ts reply owner channel reason k =
    leave_cases ts reply owner channel reason (λ p. p.given ≢ Ok k → record_at p.table k ≡ record_at ts k) (λ why z. refl)
    (λ i l e r z. set_there ts i _ k (λ q. z (ap Ok q)))

pub elapsed_frame : (ts : List Record) (ms k : ℕ) → record_at (passed_table (passing ts ms)) k ≡ (elapsed_of (record_at ts k) ms).after
unfolding elapsed_of
elapsed_frame [] ms k = refl
elapsed_frame (r ∷ ts) ms zero = refl
elapsed_frame (r ∷ ts) ms (suc k) = elapsed_frame ts ms k
