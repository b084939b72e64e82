-- When a call over the table is refused and by which number (01, "Refusal numbers, in order of checking"): each condition by itself, the order in which each
-- call checks them, and what stands after a refusal. None of it looks at how the calls decide.
use Rattle.std.specs.Prelude as option
use Rattle.std.specs.Prelude.{ℕ, Bool, true, false, cond, not, ◌&&◌, ◌||◌, List, [], ◌∷◌, Option, Some, is_some, Result, Ok, Err, ◌≡◌, ltb, eqb, length}
use Rattle.message.specs.Lengths.{reliable_wrapper, unreliable_wrapper, join, ack}
use Rattle.message.specs.Layouts.{cid_at, wrapper_of, join_of}
use Rattle.message.specs.Reading.{readable, contents}
use Rattle.refusal.specs.Numbers.{number_of}
use Rattle.refusal.specs.declared.Refusal.{Refusal}
use Rattle.refusal.specs.declared.Refusal.TheVariants as refusal
use Rattle.record.specs.Reasons.{leaving_reason}
use Rattle.record.specs.WellFormed.{most_contents}
use Rattle.record.specs.declared.Record.{Record}
use Rattle.wrapper.specs.Judge.{judged}
use Rattle.table.specs.Table.{same, found, table_formed, record_at, blank}
use Rattle.member.specs.Sizes.{message_sizes, elapsed_sizes, leave_sizes}
use Rattle.member.specs.Messages.{MessageEnds}
use Rattle.member.specs.Elapsing.{longest, ElapsedEnds}
use Rattle.member.specs.Leaving.{LeaveEnds}

-- ---- checks in an order

-- a refusal's number, and whether its condition holds
pub record Check : Type 0 where
  pub number : ℕ
  pub holds : Bool

-- the number of the first check that holds; 0 if none does
unfoldable pub first_number : List Check → ℕ
first_number [] = 0
first_number (c ∷ cs) = cond c.holds c.number (first_number cs)

-- the condition of number n holds, and no earlier one
pub data First (n : ℕ) : List Check → Type 0 where
  here : (cs : List Check) → First n (record { number = n; holds = true } ∷ cs)
  later : (m : ℕ) (cs : List Check) → First n cs → First n (record { number = m; holds = false } ∷ cs)

-- no condition holds
pub data None : List Check → Type 0 where
  none : None []
  also : (m : ℕ) (cs : List Check) → None cs → None (record { number = m; holds = false } ∷ cs)

abbrev pub check : ℕ → Bool → Check
check n b = record { number = n; holds = b }

-- ---- the conditions

-- 4: no base message that is built, or its data has a length or an address form that is not listed. An ACK is wrapped
abbrev pub unreadable : ℕ → List ℕ → Bool
unreadable v d = eqb v ack || not (readable v d)

abbrev pub is_wrapper : ℕ → Bool
is_wrapper v = eqb v reliable_wrapper || eqb v unreliable_wrapper

-- 5: no wrapper, and no Join that names our component
abbrev pub not_for_us : List ℕ → ℕ → List ℕ → Bool
not_for_us ours v d = not (is_wrapper v) && not (eqb v join && same (join_of d).cid (cid_at ours 0))

-- where the table has the channel that a wrapper names
abbrev pub own_place : List Record → List ℕ → List ℕ → Option ℕ
own_place ts sender d = found (cid_at sender 0) (wrapper_of d).channel ts

-- 6: a wrapper whose owner and channel no record has
abbrev pub no_record : List Record → List ℕ → ℕ → List ℕ → Bool
no_record ts sender v d = is_wrapper v && not (is_some (own_place ts sender d))

-- 7: a wrapper with contents over 1,454
abbrev pub too_long : ℕ → List ℕ → Bool
too_long v d = is_wrapper v && ltb most_contents (length (contents d))

-- the record that is found. (`None` by itself is, in this file, that no condition holds)
abbrev pub record_found : List Record → Option ℕ → Record
record_found ts (Some i) = record_at ts i
record_found ts option.None = blank []

-- step 1 of the wrapper on its own record
abbrev pub judgement : List Record → List ℕ → ℕ → List ℕ → Result (Unit {0}) Refusal
judgement ts sender v d =
    judged (record_found ts (own_place ts sender d)) (eqb v reliable_wrapper) (wrapper_of d).total (wrapper_of d).reliable

abbrev pub is_old : Result (Unit {0}) Refusal → Bool
is_old (Err refusal.Old) = true
is_old other = false

abbrev pub is_inconsistent : Result (Unit {0}) Refusal → Bool
is_inconsistent (Err refusal.Inconsistent) = true
is_inconsistent other = false

-- ---- the orders

-- a message call checks 1, 2 and 4 to 9
abbrev pub message_checks : List Record → List ℕ → ℕ → ℕ → List ℕ → List ℕ → ℕ → List ℕ → List Check
message_checks ts held deliver reply sender ours v d =
    check 1 (not (message_sizes (length ts) (length held) deliver reply (length sender) (length ours)))
    ∷ check 2 (not (table_formed ts))
    ∷ check 4 (unreadable v d)
    ∷ check 5 (not_for_us ours v d)
    ∷ check 6 (no_record ts sender v d)
    ∷ check 7 (too_long v d)
    ∷ check 8 (is_wrapper v && is_old (judgement ts sender v d))
    ∷ check 9 (is_wrapper v && is_inconsistent (judgement ts sender v d))
    ∷ []

-- an elapsed call checks 1, 2, 3
abbrev pub elapsed_checks : List Record → ℕ → ℕ → List Check
elapsed_checks ts cells ms =
    check 1 (not (elapsed_sizes (length ts) cells)) ∷ check 2 (not (table_formed ts)) ∷ check 3 (ltb longest ms) ∷ []

-- a leave call checks 1, 2, 6, 10
abbrev pub leave_checks : List Record → ℕ → List ℕ → ℕ → ℕ → List Check
leave_checks ts reply owner channel reason =
    check 1 (not (leave_sizes (length ts) reply (length owner)))
    ∷ check 2 (not (table_formed ts))
    ∷ check 6 (not (is_some (found (cid_at owner 0) channel ts)))
    ∷ check 10 (not (leaving_reason reason))
    ∷ []

-- ---- what stands after a refusal: the refusal alone is answered, and every lent octet is as before. (The table went in by value, so the caller has it still; the
-- theorems say beside this that what the call comes to has the same table.)

-- a refusal by this number, and what P says of it
abbrev pub RefusedBy : ℕ → (Refusal → Type 0) → Type 0
RefusedBy n P = (why : Refusal) × (number_of why ≡ n) × P why

abbrev pub message_stands : List ℕ → List ℕ → List ℕ → Refusal → MessageEnds
message_stands held deliver reply why = record { answer = Err why; held = held; deliver = deliver; reply = reply }

abbrev pub elapsed_stands : List ℕ → Refusal → ElapsedEnds
elapsed_stands cells why = record { answer = Err why; cells = cells }

abbrev pub leave_stands : List ℕ → Refusal → LeaveEnds
leave_stands reply why = record { answer = Err why; reply = reply }
