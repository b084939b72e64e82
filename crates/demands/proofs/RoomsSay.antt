-- What a caller reads after a call is what the call came to, whatever lay in the lent rooms before: delivery k stands in cell k with its length (`deliveries_stand`),
-- and the answer, if the call is accepted, counts and lists it (`deliveries_counted`, `deliveries_listed`); only a wrapper's step delivers (`wrappers_deliver`); a reply stands at the front of its
-- room (`reply_stands`, `left_stands`), and what record k sends as time passes in cell k, as the answer lists it (`cells_stand`, `cells_listed`). The laws on deliveries assume a well-formed table of the machine's numbers (`Right`), all that speak of a
-- room its size.
use Prim.Native.Nat.{ℕ, zero, suc, ◌+◌, ◌*◌, ◌<◌, ◌≤◌}
use mathlib.Core.List.{List, [], ◌∷◌, map}
use mathlib.Core.Logic.{inl}
use mathlib.Core.Path.{◌≡◌, refl, sym, ap, subst, ◌∙◌}
use mathlib.Core.Bool.{false, false≢true}
use native.Mathlib.Nat.{zero-add, add-zero}
use native.Mathlib.Omega.{arith}
use lib.ListN.{length, get_or, length-set}
use lib.Seq.{get_or-set_same, get_or-set_other}
use Rattle.std.specs.Prelude.{⊤, Result, Ok, Err}
use Rattle.octets.specs.Octets.{part, splice}
use Rattle.octets.proofs.Writes.{length_splice, part_splice}
use Rattle.message.specs.Layouts.{cid_at}
use Rattle.message.specs.Reading.{contents}
use Rattle.refusal.specs.declared.Refusal.{Refusal}
use Rattle.record.proofs.Choices.{never}
use Rattle.record.specs.WellFormed.{most_contents}
use Rattle.wrapper.specs.Taken.{taken}
use Rattle.table.specs.Table.{record_at}
use Rattle.table.proofs.Tables.{formed}
use Rattle.gap.specs.declared.Elapsed.{Elapsed}
use Rattle.sending.proofs.Lengths.{event_within}
use Rattle.carry.specs.Carried.{Delivered, delivered_by, no_deliveries, one_more, listed}
use Rattle.carry.specs.declared.Delivery.{Delivery}
use Rattle.carry.specs.declared.Deliveries.{Deliveries}
use Rattle.carry.proofs.Appended.{listed_count}
use Rattle.carry.proofs.Beside.{part_beside}
use Rattle.carry.proofs.PlanFits.{plan_fits}
use Rattle.carry.specs.Whole.{Each, Whole}
use Rattle.carry.proofs.DeliveredLength.{delivered_length, delivered_few}
use Rattle.carry.proofs.DeliverPast.{deliver_cell}
use Rattle.member.specs.Sizes.{table_size, deliver_size, cell_size, cells_size}
use Rattle.member.specs.Messages.{Outcome, join_outcome, plan_outcome, message_outcome, messaged_as, messaged, deliver_after, reply_after}
use Rattle.member.specs.Elapsing.{Passing, sent_by, cells_from, cells_after, passed_as, passed, cell_of}
use Rattle.member.specs.Leaving.{Departing, left_reply}
use Rattle.member.specs.declared.Cell.{Cell}
use Rattle.member.specs.declared.Given.{Given}
use Rattle.member.specs.declared.Messaged.{Messaged}
use Rattle.member.specs.declared.Passed.{Passed}
use Rattle.demands.specs.Calls.{State, Right}
use Rattle.demands.proofs.Lemmas.OneStep.{brought}
use Rattle.demands.proofs.Lemmas.Outcomes.{Carries, message_cases}
use Rattle.demands.specs.Frame.{is_wrapped}

-- deliveries that have cells: five at most, each as long as it says
record Stand (ds : List Delivered) : Type 0 where
  whole : Each Whole ds
  few : length ds ≤ 5

module _ (s : State) (right : Right s) where
  message_stands_lem : (deliver reply : ℕ) (sender ours : List ℕ) (v : ℕ) (d : List ℕ) (n : ℕ)
      → Stand (message_outcome s.table s.held deliver reply sender ours v d n).delivered
  unfolding join_outcome plan_outcome
  message_stands_lem deliver reply sender ours v d n =
      message_cases s.table s.held deliver reply sender ours v d n (λ out. Stand out.delivered) (λ why. nothing) nothing (λ sized i carries. plan_stands i carries)
    where
      nothing : Stand []
      nothing = record { whole = tt; few = omega arith }

      plan_stands : (i : ℕ) → Carries s.table (cid_at sender 0) v d i
          → Stand (delivered_by s.held i (brought v d) (contents d) (taken (record_at s.table i) (brought v d)))
      plan_stands i carries =
          let below : i < 8 = omega (arith, carries.within, right.eight) in
          let fits =
          plan_fits (record_at s.table i) (brought v d) carries.used ((formed s.table right.formed).each i) (right.sound i below).four carries.most in
          record {
            whole =
                delivered_length s.held i (brought v d) (contents d) (taken (record_at s.table i) (brought v d)) fits right.size below refl
                carries.most;
            few = delivered_few s.held i (brought v d) (contents d) (taken (record_at s.table i) (brought v d)) fits;
          }

  -- delivery k is read in cell k
  pub deliveries_stand : (deliver reply : ℕ) (sender ours : List ℕ) (v : ℕ) (d : List ℕ) (n : ℕ) (room : List ℕ) (none : Delivered) (k : ℕ)
      → length room ≡ deliver_size → k < length (message_outcome s.table s.held deliver reply sender ours v d n).delivered
      → part (deliver_after (message_outcome s.table s.held deliver reply sender ours v d n) room) (k * most_contents)
      (get_or (message_outcome s.table s.held deliver reply sender ours v d n).delivered k none).delivery.len
      ≡ (get_or (message_outcome s.table s.held deliver reply sender ours v d n).delivered k none).contents
  deliveries_stand deliver reply sender ours v d n room none k size l =
      let stand = message_stands_lem deliver reply sender ours v d n in
      subst
      (λ m.
      part (deliver_after (message_outcome s.table s.held deliver reply sender ours v d n) room) (m * most_contents)
      (get_or (message_outcome s.table s.held deliver reply sender ours v d n).delivered k none).delivery.len
      ≡ (get_or (message_outcome s.table s.held deliver reply sender ours v d n).delivered k none).contents)
      (zero-add k)
      (deliver_cell 0 (message_outcome s.table s.held deliver reply sender ours v d n).delivered room stand.whole
      (omega (arith, stand.few, size)) none k l)

-- the reply is read at the front of its room
pub reply_stands : (out : Outcome) (room : List ℕ) → part (reply_after out room) 0 (length out.reply) ≡ out.reply
reply_stands out room = part_splice room 0 out.reply (omega arith)

-- ---- what the answer lists

-- later deliveries leave the earlier ones listed
listed_keeps : (a : Deliveries) (ds : List Delivered) (z : Delivery) (j : ℕ) → j < a.count → get_or (listed a ds).each j z ≡ get_or a.each j z
unfolding listed
listed_keeps a [] z j l = refl
listed_keeps a (d ∷ ds) z j l =
    listed_keeps (one_more a d) ds z j (omega arith)
    ∙ get_or-set_other a.each a.count j d.delivery z (λ e. absurd (omega arith))

listed_at : (a : Deliveries) (ds : List Delivered) (z : Delivery) (none : Delivered) (k : ℕ) → length a.each ≡ 5 → a.count + length ds ≤ 5 → k < length ds
    → get_or (listed a ds).each (a.count + k) z ≡ (get_or ds k none).delivery
unfolding listed
listed_at a [] z none k five few l = absurd (omega arith)
listed_at a (d ∷ ds) z none zero five few l =
    ap (λ m. get_or (listed (one_more a d) ds).each m z) (add-zero a.count)
    ∙ listed_keeps (one_more a d) ds z a.count (omega arith)
    ∙ get_or-set_same a.each a.count d.delivery z (omega arith)
listed_at a (d ∷ ds) z none (suc k) five few l =
    let turn : a.count + suc k ≡ a.count + 1 + k = omega arith in
    ap (λ m. get_or (listed (one_more a d) ds).each m z) turn
    ∙ listed_at (one_more a d) ds z none k (length-set a.each a.count d.delivery ∙ five) (omega arith) (omega arith)

-- the answer to a call that is accepted has what is listed
answer_is : (out : Outcome) (a : Messaged) → messaged out ≡ Ok a
    → a.deliveries ≡ listed no_deliveries out.delivered
answer_is out a e = by out.given e
  where
    by : (given : Result Given Refusal) → messaged_as out given ≡ Ok a
        → a.deliveries ≡ listed no_deliveries out.delivered
    by (Ok g) e = cc
    by (Err why) e = never (cc)

module _ (s : State) (right : Right s) (deliver reply : ℕ) (sender ours : List ℕ) (v : ℕ) (d : List ℕ) (n : ℕ) where
  module _ (a : Messaged) (answered : messaged (message_outcome s.table s.held deliver reply sender ours v d n) ≡ Ok a) where
    -- the answer of a call that is accepted counts the deliveries that the call made
    pub deliveries_counted : a.deliveries.count ≡ length (message_outcome s.table s.held deliver reply sender ours v d n).delivered
    deliveries_counted =
        ap (λ (m : Deliveries). m.count) (answer_is (message_outcome s.table s.held deliver reply sender ours v d n) a answered)
        ∙ listed_count no_deliveries _ ∙ zero-add _

    -- and lists each, with its kind, numbers and length, in its turn
    pub deliveries_listed : (z : Delivery) (none : Delivered) (k : ℕ)
        → k < length (message_outcome s.table s.held deliver reply sender ours v d n).delivered
        → get_or a.deliveries.each k z ≡ (get_or (message_outcome s.table s.held deliver reply sender ours v d n).delivered k none).delivery
    deliveries_listed z none k l =
        let out = message_outcome s.table s.held deliver reply sender ours v d n in
        let stand = message_stands_lem s right deliver reply sender ours v d n in
        ap (λ (m : Deliveries). get_or m.each k z) (answer_is out a answered)
        ∙ ap (λ m. get_or (listed no_deliveries out.delivered).each m z) (sym (zero-add k))
        ∙ listed_at no_deliveries out.delivered z none k refl (omega (arith, stand.few)) l

  -- only a wrapper's step delivers: a refusal and the answer to a Join deliver nothing
  pub wrappers_deliver : is_wrapped (message_outcome s.table s.held deliver reply sender ours v d n).given ≡ false
      → (message_outcome s.table s.held deliver reply sender ours v d n).delivered ≡ []
  unfolding join_outcome plan_outcome
  wrappers_deliver =
      message_cases s.table s.held deliver reply sender ours v d n (λ out. is_wrapped out.given ≡ false → out.delivered ≡ []) (λ why e. refl) (λ e. refl)
      (λ sized i carries e. absurd (false≢true (sym e)))

-- ---- the cells of an elapsed call, and the room of a leave call

-- what a record sends is written behind what the records before it send
cells_keep : (i : ℕ) (es : List Elapsed) (room : List ℕ) (from n : ℕ) → (i + length es) * cell_size ≤ length room → from + n ≤ i * cell_size
    → part (cells_from i es room) from n ≡ part room from n
unfolding cells_from
cells_keep i [] room from n l h = refl
cells_keep i (e ∷ es) room from n l h =
    let sent = event_within e.after.terms e.event in
    let inside : i * cell_size + length (sent_by e) ≤ length room = omega (arith, sent, l) in
    cells_keep (i + 1) es (splice room (i * cell_size) (sent_by e)) from n
    (omega (arith, length_splice room (i * cell_size) (sent_by e) inside, l)) (omega arith)
    ∙ part_beside room (i * cell_size) (sent_by e) inside from n (inl h)

cells_at : (i : ℕ) (es : List Elapsed) (room : List ℕ) (none : Elapsed) (k : ℕ) → (i + length es) * cell_size ≤ length room → k < length es
    → part (cells_from i es room) ((i + k) * cell_size) (length (sent_by (get_or es k none))) ≡ sent_by (get_or es k none)
unfolding cells_from
cells_at i [] room none k l h = absurd (omega arith)
cells_at i (e ∷ es) room none zero l h =
    let sent = event_within e.after.terms e.event in
    let inside : i * cell_size + length (sent_by e) ≤ length room = omega (arith, sent, l) in
    ap (λ m. part (cells_from (i + 1) es (splice room (i * cell_size) (sent_by e))) (m * cell_size) (length (sent_by e))) (add-zero i)
    ∙ cells_keep (i + 1) es (splice room (i * cell_size) (sent_by e)) (i * cell_size) (length (sent_by e))
    (omega (arith, length_splice room (i * cell_size) (sent_by e) inside, l)) (omega (arith, sent))
    ∙ part_splice room (i * cell_size) (sent_by e) (omega (arith, inside))
cells_at i (e ∷ es) room none (suc k) l h =
    let sent = event_within e.after.terms e.event in
    let inside : i * cell_size + length (sent_by e) ≤ length room = omega (arith, sent, l) in
    let turn : i + suc k ≡ i + 1 + k = omega arith in
    ap (λ m. part (cells_from (i + 1) es (splice room (i * cell_size) (sent_by e))) (m * cell_size) (length (sent_by (get_or es k none)))) turn
    ∙ cells_at (i + 1) es (splice room (i * cell_size) (sent_by e)) none k
    (omega (arith, length_splice room (i * cell_size) (sent_by e) inside, l)) (omega arith)

-- what record k sends is read in cell k
pub cells_stand : (p : Passing) (room : List ℕ) (none : Elapsed) (k : ℕ) → length p.each ≡ table_size → length room ≡ cells_size → k < table_size
    → part (cells_after p room) (k * cell_size) (length (sent_by (get_or p.each k none))) ≡ sent_by (get_or p.each k none)
cells_stand p room none k eight size l =
    ap (λ m. part (cells_after p room) (m * cell_size) (length (sent_by (get_or p.each k none)))) (sym (zero-add k))
    ∙ cells_at 0 p.each room none k (omega (arith, eight, size)) (omega (arith, eight))

-- and the answer of a call that is accepted lists its event, with the number of octets that stand in its cell
pub cells_listed : (p : Passing) (a : Passed) → passed p ≡ Ok a → (z : Cell) (none : Elapsed) (k : ℕ) → k < length p.each
    → get_or a.cells k z ≡ record { event = (get_or p.each k none).event; len = length (sent_by (get_or p.each k none)) }
cells_listed p a e z none k l = ap (λ cs. get_or cs k z) (by p.given e) ∙ at p.each k l
  where
    by : (given : Result ⊤ Refusal) → passed_as p given ≡ Ok a → a.cells ≡ map cell_of p.each
    by (Ok done) e = cc
    by (Err why) e = never (cc)

    at : (es : List Elapsed) (k : ℕ) → k < length es
        → get_or (map cell_of es) k z ≡ record { event = (get_or es k none).event; len = length (sent_by (get_or es k none)) }
    at [] k l = absurd (omega arith)
    at (e ∷ es) zero l = refl
    at (e ∷ es) (suc k) l = at es k (omega arith)

-- a Leaving is read at the front of its room
pub left_stands : (p : Departing) (room : List ℕ) → part (left_reply p room) 0 (length p.reply) ≡ p.reply
left_stands p room = part_splice room 0 p.reply (omega arith)
