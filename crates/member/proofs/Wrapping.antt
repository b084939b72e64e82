-- A wrapper's step: which outcome it has by what step 1 says, and what carrying out its plan needs and answers. Assumes nothing.
use Prim.Native.Nat.{ℕ, zero, suc, ◌<◌, ◌≤◌}
use mathlib.Core.Bool.{true}
use mathlib.Core.List.{List, [], ◌∷◌}
use mathlib.Core.Path.{◌≡◌, sym, ◌∙◌}
use native.Mathlib.Omega.{arith}
use lib.ListN.{length, get_or, set}
use mir.Val.{Val}
use denote.RattleType.{RattleType}
use denote.Laws.{Is}
use denote.Shadow.{shadow}
use denote.Array.{Array, each}
use denote.Struct.Declared.{row}
use Rattle.std.specs.Prelude.{Result, Ok, Err}
use Rattle.refusal.specs.declared.Refusal.{Refusal}
use Rattle.record.specs.WellFormed.{most_contents, well_formed}
use Rattle.record.specs.declared.Record.{Record}
use Rattle.record.specs.contracts.Record.{the_type}
use Rattle.wrapper.specs.Taken.{stepped}
use Rattle.wrapper.specs.declared.Arrived.{Arrived}
use Rattle.wrapper.specs.declared.Plan.{Plan}
use Rattle.table.specs.Table.{blank, record_at}
use Rattle.sending.specs.Sent.{reply_of}
use Rattle.carry.specs.Carried.{delivered_by, no_deliveries, listed}
use Rattle.carry.specs.Fits.{Fits}
use Rattle.carry.specs.declared.Deliveries.{Deliveries}
use Rattle.carry.proofs.PlanFits.{stepped_fits}
use Rattle.member.specs.Messages.{refused_message, plan_outcome, wrapper_outcome, messaged}
use Rattle.member.specs.declared.Given.TheVariants as given
use Rattle.member.specs.declared.Messaged.{Messaged}

-- ---- the plan

-- the answers of the calls that carry it out
pub plan_done : (ts : List Record) (held : List ℕ) (i : ℕ) (w : Arrived) (c : List ℕ) (p : Plan) (all : Deliveries) (t : List Record) (k : ℕ)
    → all ≡ listed no_deliveries (delivered_by held i w c p) → t ≡ set ts i p.after → k ≡ length (reply_of p.after.terms p.reply)
    → ◌≡◌ {A = Result Messaged Refusal}
    (Ok (record { table = t; given = given.Wrapped i p.fate p.thrown p.reply; deliveries = all; reply = k }))
    (messaged (plan_outcome ts held i w c p))
unfolding plan_outcome
plan_done ts held i w c p all t k e f g = rw (e, f, g)

-- ---- the records of a table

-- what a function is told of an array, of one element
module _ (R : RattleType) (d : R.Denot) where
  told_at : (xs : List R.Denot) (us : List Val) → shadow (each R.Denot R.own_val xs us) → (i : ℕ) → i < length xs
      → (u : Val) × Is R (get_or xs i d) (u ∷ [])
  told_at [] us s i h = absurd (omega arith)
  told_at (x ∷ xs) [] s i h = absurd s
  told_at (x ∷ xs) (u ∷ us) s zero h = (u, s.0)
  told_at (x ∷ xs) (u ∷ us) s (suc i) h = told_at xs us s.1 i (omega arith)

-- the table's type says that it has eight, and a record's that it has four places
pub eight_records : (ts : List Record) (vs : List Val) → Is (Array (row the_type) 8) ts vs → length ts ≡ 8
eight_records ts vs p = p.1.0.1

pub four_places : (ts : List Record) (vs : List Val) → Is (Array (row the_type) 8) ts vs → (i : ℕ) → i < 8 → length (record_at ts i).places ≡ 4
four_places ts vs p i h =
    let q = told_at (row the_type) (blank []) ts p.0 p.1.1 i (omega (arith, eight_records ts vs p)) in
    q.1.1.1.1.1.1.1.1.1.1.1.0.1.0.1

-- ---- the step of a used, well-formed record

pub step_fits : (r : Record) → r.used ≡ true → well_formed r ≡ true → length r.places ≡ 4 → (w : Arrived) → w.len ≤ most_contents
    → (s : Result Plan Refusal) (p : Plan) → s ≡ stepped r w → s ≡ Ok p → Fits p
step_fits r used well four w fits s p e z = stepped_fits r w used well four fits p (sym e ∙ z)

module _ (ts : List Record) (held : List ℕ) (i : ℕ) (w : Arrived) (c : List ℕ) (s : Result Plan Refusal) (e : s ≡ stepped (record_at ts i) w) where
  pub step_refused : (why : Refusal) → s ≡ Err why → wrapper_outcome ts held i w c ≡ refused_message ts held why
  unfolding wrapper_outcome
  step_refused why n = rw (← e, n)

  pub step_taken : (p : Plan) → s ≡ Ok p → wrapper_outcome ts held i w c ≡ plan_outcome ts held i w c p
  unfolding wrapper_outcome
  step_taken p z = rw (← e, z)
