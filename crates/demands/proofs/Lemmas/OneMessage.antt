-- A message call over the table as seen from the channel in record i: one of its own does to the channel what the channel does by itself
-- (`message_own`), and any other leaves it (`message_other`). Assumes of the state that it is right and that record i has the channel.
use Prim.Native.Nat.{ℕ, ◌<◌, ◌≤◌}
use mathlib.Core.Bool.{Bool, true, false, cond, not, and-eq-true_iff, false≢true}
use mathlib.Core.List.{List}
use mathlib.Core.Logic.{◌≢◌, inl, inr}
use mathlib.Core.Path.{◌≡◌, refl, sym, ap, ap₂, ◌∙◌}
use native.Mathlib.Omega.{arith}
use lib.Dec.{ltb, eqb}
use lib.ListN.{length, replicate, length-replicate}
use borrow.Author.Tests.{ltb-false, eqb-true, eq-eqb}
use Rattle.std.specs.Prelude.{Option, Some, None, is_some, Result, Ok, Err}
use Rattle.message.specs.Lengths.{reliable_wrapper, join}
use Rattle.message.specs.Layouts.{cid_at, wrapper_of, join_of}
use Rattle.message.specs.Reading.{readable, contents}
use Rattle.message.specs.declared.Cid.{Cid}
use Rattle.message.specs.declared.Address.{Address}
use Rattle.message.specs.declared.Address.TheVariants as address
use Rattle.message.specs.declared.Join.{Join}
use Rattle.refusal.specs.declared.Refusal.{Refusal}
use Rattle.refusal.specs.declared.Refusal.TheVariants as refusal
use Rattle.record.specs.WellFormed.{most_contents}
use Rattle.record.specs.declared.Record.{Record}
use Rattle.record.specs.Reasons.{illegal_parameters}
use Rattle.wrapper.specs.Taken.{taken, stepped}
use Rattle.wrapper.specs.declared.Arrived.{Arrived}
use Rattle.wrapper.specs.declared.Plan.{Plan}
use Rattle.joining.specs.Joining.{legal, existing_of, decide_at, decided, new_record}
use Rattle.joining.specs.declared.Decision.{Decision}
use Rattle.joining.specs.declared.Decision.TheVariants as decision
use Rattle.table.specs.Table.{same, named, found, lowest_free, table_formed, record_at}
use Rattle.table.proofs.Finding.{free_at}
use Rattle.table.proofs.Tables.{set_there, set_here}
use Rattle.sending.specs.Sent.{reply_of, join_reply_of}
use Rattle.carry.specs.Carried.{Delivered, held_after, delivered_by}
use Rattle.carry.specs.Fits.{Fits}
use Rattle.carry.proofs.PlanFits.{plan_fits, stepped_fits}
use Rattle.asking.specs.Asking.{arrived_of, wrapper_for, wrapper_asks, join_asks, asked_of}
use Rattle.asking.specs.declared.Asked.{Asked}
use Rattle.asking.specs.declared.Asked.TheVariants as asked
use Rattle.member.specs.Sizes.{message_sizes, table_size, cid_size}
use Rattle.member.specs.Messages.{Outcome, refused_message, existing_at, table_after, join_done, join_outcome, plan_outcome, stepped_outcome, wrapper_outcome, asked_outcome, message_outcome}
use Rattle.demands.specs.Runs.{Came}
use Rattle.demands.specs.Calls as calls
use Rattle.demands.specs.Calls.{State, Answer, lent_as, message_came, table_step, Right}
use Rattle.demands.specs.Refusals.{is_wrapper}
use Rattle.demands.specs.Channel.{Channel, Told, refused, wrapped, joined, stays, planned, by_step, wrapper_on, join_on, one, names, is_cid, own, channel_at, view_at, slab}
use Rattle.demands.proofs.Lemmas.Slabs.{slab_after, slab_other, slab_delivered}
use Rattle.demands.proofs.Lemmas.Asks.{asks_wrapper, asks_join}
use Rattle.demands.proofs.Lemmas.OneStep.{brought}
use Rattle.demands.proofs.Lemmas.Outcomes.{Carries, Sized, message_cases}
use Rattle.demands.proofs.Lemmas.Owned.{sender_is, is_sender, Names, names_is, wrapper_names, message_sizes_lem, Has, it_has, meets}

-- ---- the octets lent

pub lent_length : (n : ℕ) (held : List ℕ) → length (lent_as n held) ≡ n
lent_length n held = by (eqb n (length held)) refl
  where
    by : (b : Bool) → eqb n (length held) ≡ b → length (cond b held (replicate n 0)) ≡ n
    by true e = sym (eqb-true n (length held) e)
    by false e = length-replicate n 0

-- what is lent in place of the held octets is not put in their place
lent_back : (b : Bool) (held other : List ℕ) → cond b (cond b held other) held ≡ held
lent_back true held other = refl
lent_back false held other = refl

-- ---- the call

-- an outcome that stands in the caller's memory as it is
abbrev in_memory : Outcome → Came State Answer
in_memory out = record { state = record { table = out.table; held = out.held }; answer = calls.message out }

module _ (s : State) (right : Right s) (held deliver reply : ℕ) (sender ours : List ℕ) (v : ℕ) (d : List ℕ) (n : ℕ) where
  abbrev sizes : Bool
  sizes = message_sizes table_size held deliver reply (length sender) (length ours)

  -- what the message asks for, and what comes of it
  abbrev outcome : Outcome
  outcome = asked_outcome s.table s.held (cid_at sender 0) n (contents d) (asked_of s.table (cid_at sender 0) (cid_at ours 0) v d)

  -- a right table refuses nothing but sizes before it looks at what is asked
  message_comes : table_step s (calls.message held deliver reply sender ours v d n)
      ≡ cond sizes (in_memory outcome) (record { state = s; answer = calls.message (refused_message s.table (lent_as held s.held) refusal.WrongSize) })
  unfolding table_step message_outcome
  message_comes =
      ap (λ (b : Bool). came b) lengths ∙ by sizes refl
    where
      came : Bool → Came State Answer
      came b =
          message_came s held
          (cond (not b) (refused_message s.table (lent_as held s.held) refusal.WrongSize)
          (cond (not (table_formed s.table)) (refused_message s.table (lent_as held s.held) refusal.WrongTable)
          (asked_outcome s.table (lent_as held s.held) (cid_at sender 0) n (contents d) (asked_of s.table (cid_at sender 0) (cid_at ours 0) v d))))

      lengths : message_sizes (length s.table) (length (lent_as held s.held)) deliver reply (length sender) (length ours) ≡ sizes
      lengths =
          ap₂ (λ (a b : ℕ). message_sizes a b deliver reply (length sender) (length ours)) right.eight (lent_length held s.held)

      by : (b : Bool) → sizes ≡ b
          → came b ≡ cond b (in_memory outcome) (record { state = s; answer = calls.message (refused_message s.table (lent_as held s.held) refusal.WrongSize) })
      by true e =
          let q : held ≡ length s.held = (message_sizes_lem _ held deliver reply (length sender) (length ours) e).0 ∙ sym right.size in
          let t : eqb held (length s.held) ≡ true = eq-eqb held (length s.held) q in
          rw (right.formed, t)
      by false e =
          ap
          (λ (h : List ℕ). record { state = record { table = s.table; held = h }; answer = calls.message (refused_message s.table (lent_as held s.held) refusal.WrongSize) })
          (lent_back (eqb held (length s.held)) s.held (replicate held 0))

-- ---- the channel's own messages

-- the answer to a Join that meets a record does not depend on free ones
decided_known : (j : Join) (r : Record) (n : ℕ) (free : Bool) → decided j (Some (existing_of r)) n free ≡ decided j (Some (existing_of r)) n true
unfolding decided
decided_known j r n free = ap (λ (a : Decision). cond (legal j) a (decision.Refuse illegal_parameters)) (by j.address)
  where
    by : (a : Address) → decide_at a (Some (existing_of r)) j.mid n free ≡ decide_at a (Some (existing_of r)) j.mid n true
    by (address.Null p) = refl
    by (address.Ipv4 e p) = refl
    by (address.Other t) = refl

module _ (i : ℕ) (owner : Cid) (channel : ℕ) (s : State) (right : Right s) (has : named owner channel (record_at s.table i) ≡ true) where
  it : Has i owner channel s right has
  it = it_has i owner channel s right has

  -- a plan of record i
  plan_own : (w : Arrived) (c : List ℕ) (p : Plan) → Fits p → length c ≤ most_contents
      → view_at i (in_memory (plan_outcome s.table s.held i w c p)) ≡ planned (channel_at i s) w c p
  unfolding view_at channel_at plan_outcome planned
  plan_own w c p fits most =
      ap (λ (r : Record). seen r (slab i (held_after i p.fate c s.held)) (delivered_by s.held i w c p))
      (set_here s.table i p.after (omega (arith, it.below, right.eight)))
      ∙ ap (λ (h : List ℕ). seen p.after h (delivered_by s.held i w c p))
      (slab_after i p.fate c s.held it.below fits.place most right.size)
      ∙ ap (λ (ds : List Delivered). seen p.after (held_after 0 p.fate c (slab i s.held)) ds)
      (slab_delivered s.held i w c p fits it.below most right.size)
    where
      seen : Record → List ℕ → List Delivered → Came Channel Told
      seen r h ds =
          record {
            state = record { at = r; held = h };
            answer = wrapped p.fate p.thrown ds (reply_of p.after.terms p.reply);
          }

  step_own : (w : Arrived) (c : List ℕ) → w.len ≡ length c → length c ≤ most_contents
      → view_at i (in_memory (wrapper_outcome s.table s.held i w c)) ≡ by_step (channel_at i s) w c (stepped (record_at s.table i) w)
  unfolding wrapper_outcome view_at channel_at
  step_own w c said most = by (stepped (record_at s.table i) w) refl
    where
      by : (r : Result Plan Refusal) → stepped (record_at s.table i) w ≡ r
          → view_at i (in_memory (stepped_outcome s.table s.held i w c r)) ≡ by_step (channel_at i s) w c r
      by (Ok p) e =
          plan_own w c p (stepped_fits (record_at s.table i) w it.used (it.formed.each i) it.four (omega arith) p e) most
      by (Err why) e = refl

  wrapper_own : (v : ℕ) (d : List ℕ) (n : ℕ)
      → view_at i
      (in_memory
      (asked_outcome s.table s.held owner n (contents d)
      (wrapper_for (Some i) (eqb v reliable_wrapper) (wrapper_of d) (length (contents d)))))
      ≡ wrapper_on (channel_at i s) v d
  unfolding wrapper_on view_at channel_at
  wrapper_own v d n = by (ltb most_contents (length (contents d))) refl
    where
      w : Arrived
      w = arrived_of (eqb v reliable_wrapper) (wrapper_of d) (length (contents d))

      by : (b : Bool) → ltb most_contents (length (contents d)) ≡ b
          → view_at i (in_memory (asked_outcome s.table s.held owner n (contents d) (cond b (Err refusal.ContentsOver) (Ok (asked.Wrapper i w)))))
          ≡ cond b (stays (channel_at i s) (refused refusal.ContentsOver)) (by_step (channel_at i s) w (contents d) (stepped (record_at s.table i) w))
      by true e = refl
      by false e = step_own w (contents d) refl (ltb-false most_contents (length (contents d)) e)

  -- no answer to a Join changes a used record
  join_leaves : (o : Cid) (j : Join) (n : ℕ) (answer : Decision)
      → record_at (table_after s.table o j n answer (lowest_free s.table)) i ≡ record_at s.table i
  join_leaves o j n = by (lowest_free s.table) refl
    where
      by : (f : Option ℕ) → lowest_free s.table ≡ f → (answer : Decision) → record_at (table_after s.table o j n answer f) i ≡ record_at s.table i
      by f e (decision.Refuse reason) = refl
      by f e (decision.Again r reciprocal) = refl
      by (Some k) e (decision.Make p) =
          set_there s.table k (new_record (record_at s.table k) o j p n) i
          (λ q. false≢true (sym (free_at s.table k e).1 ∙ ap (λ (m : ℕ). (record_at s.table m).used) q ∙ it.used))
      by None e (decision.Make p) = refl

  -- a Join that is answered so leaves the channel and answers so
  join_done_lem : (o : Cid) (j : Join) (n : ℕ) (known : Option ℕ) (answer : Decision)
      → view_at i (in_memory (join_done s.table s.held o j n known (lowest_free s.table) answer))
      ≡ stays (channel_at i s) (joined answer (join_reply_of o j n answer))
  unfolding view_at channel_at
  join_done_lem o j n known answer =
      ap (λ (r : Record). stays (record { at = r; held = slab i s.held }) (joined answer (join_reply_of o j n answer))) (join_leaves o j n answer)

  join_own : (ours : List ℕ) (j : Join) (n : ℕ) (c : List ℕ) → j.channel ≡ channel
      → view_at i (in_memory (asked_outcome s.table s.held owner n c (join_asks (cid_at ours 0) j))) ≡ join_on (channel_at i s) owner ours j n
  unfolding join_asks join_outcome join_on view_at channel_at
  join_own ours j n c ch = by (same j.cid (cid_at ours 0))
    where
      answer : Decision
      answer = decided j (Some (existing_of (record_at s.table i))) n true

      met : found owner j.channel s.table ≡ Some i
      met = ap (λ (k : ℕ). found owner k s.table) ch ∙ it.finds

      decides : decided j (existing_at s.table (found owner j.channel s.table)) n (is_some (lowest_free s.table)) ≡ answer
      decides =
          ap (λ (f : Option ℕ). decided j (existing_at s.table f) n (is_some (lowest_free s.table))) met
          ∙ decided_known j (record_at s.table i) n (is_some (lowest_free s.table))

      by : (b : Bool)
          → view_at i (in_memory (asked_outcome s.table s.held owner n c (cond b (Ok (asked.Join j)) (Err refusal.NotForUs))))
          ≡ cond b (stays (channel_at i s) (joined answer (join_reply_of owner j n answer))) (stays (channel_at i s) (refused refusal.NotForUs))
      by true =
          ap
          (λ (a : Decision).
          view_at i (in_memory (join_done s.table s.held owner j n (found owner j.channel s.table) (lowest_free s.table) a)))
          decides
          ∙ join_done_lem owner j n (found owner j.channel s.table) answer
      by false = refl

  -- a message that names the channel and comes from its owner
  asked_own : (ours : List ℕ) (v : ℕ) (d : List ℕ) (n : ℕ) → Names channel v d
      → view_at i (in_memory (asked_outcome s.table s.held owner n (contents d) (asked_of s.table owner (cid_at ours 0) v d)))
      ≡ cond (is_wrapper v) (wrapper_on (channel_at i s) v d) (join_on (channel_at i s) owner ours (join_of d) n)
  unfolding wrapper_asks
  asked_own ours v d n (readable, inl (w, c)) =
      ap (λ (a : Result Asked Refusal). view_at i (in_memory (asked_outcome s.table s.held owner n (contents d) a)))
      (asks_wrapper s.table owner (cid_at ours 0) v d readable w
      ∙ ap (λ (f : Option ℕ). wrapper_for f (eqb v reliable_wrapper) (wrapper_of d) (length (contents d)))
      (ap (λ (k : ℕ). found owner k s.table) c ∙ it.finds))
      ∙ wrapper_own v d n
      ∙ sym (rw w refl)
  asked_own ours v d n (readable, inr (e, c)) =
      let q : v ≡ join = eqb-true v join e in
      ap (λ (a : Result Asked Refusal). view_at i (in_memory (asked_outcome s.table s.held owner n (contents d) a)))
      (asks_join s.table owner (cid_at ours 0) v d readable e)
      ∙ join_own ours (join_of d) n (contents d) c
      ∙ sym (ap (λ (u : ℕ). cond (is_wrapper u) (wrapper_on (channel_at i s) v d) (join_on (channel_at i s) owner ours (join_of d) n)) q)

  module _ (held deliver reply : ℕ) (sender ours : List ℕ) (v : ℕ) (d : List ℕ) (n : ℕ) where
    pub message_own : own owner channel (calls.message held deliver reply sender ours v d n) ≡ true
        → view_at i (table_step s (calls.message held deliver reply sender ours v d n))
        ≡ one owner (channel_at i s) (calls.message held deliver reply sender ours v d n)
    unfolding own one view_at
    message_own e =
        ap (view_at i) (message_comes s right held deliver reply sender ours v d n)
        ∙ by (message_sizes table_size held deliver reply (length sender) (length ours))
      where
        mine : (is_cid owner sender ≡ true) × (names channel v d ≡ true)
        mine = (and-eq-true_iff (is_cid owner sender) (names channel v d)).0 e

        by : (b : Bool)
            → view_at i
            (cond b (in_memory (asked_outcome s.table s.held (cid_at sender 0) n (contents d) (asked_of s.table (cid_at sender 0) (cid_at ours 0) v d)))
            (record { state = s; answer = calls.message (refused_message s.table (lent_as held s.held) refusal.WrongSize) }))
            ≡ cond b (cond (is_wrapper v) (wrapper_on (channel_at i s) v d) (join_on (channel_at i s) owner ours (join_of d) n))
            (stays (channel_at i s) (refused refusal.WrongSize))
        by true =
            ap (λ (o : Cid). view_at i (in_memory (asked_outcome s.table s.held o n (contents d) (asked_of s.table o (cid_at ours 0) v d))))
            (sender_is owner sender mine.0)
            ∙ asked_own ours v d n (names_is channel v d mine.1)
        by false = refl

    -- ---- any other message

    -- whatever is answered, the channel stands where the call is not its own
    abbrev Stands : Outcome → Type 0
    Stands out = channel_at i (message_came s held out).state ≡ channel_at i s

    -- a refusal and the answer to a Join leave the octets that are held
    same_held : cond (eqb held (length s.held)) (lent_as held s.held) s.held ≡ s.held
    same_held = lent_back (eqb held (length s.held)) s.held (replicate held 0)

    pub message_other : own owner channel (calls.message held deliver reply sender ours v d n) ≡ false
        → channel_at i (table_step s (calls.message held deliver reply sender ours v d n)).state ≡ channel_at i s
    unfolding own table_step channel_at join_outcome plan_outcome
    message_other other =
        message_cases s.table (lent_as held s.held) deliver reply sender ours v d n Stands
        (λ why. ap (λ (h : List ℕ). record { at = record_at s.table i; held = slab i h }) same_held)
        (ap₂ (λ (r : Record) (h : List ℕ). record { at = r; held = slab i h }) (join_leaves (cid_at sender 0) (join_of d) n _) same_held)
        plan_other
      where
        -- a wrapper that meets record i is the channel's own
        not_met : length sender ≡ cid_size → (k : ℕ) → Carries s.table (cid_at sender 0) v d k → i ≢ k
        not_met sized k c q =
            let m = meets i owner channel s right has (cid_at sender 0) (wrapper_of d).channel (c.finds ∙ ap Some (sym q)) in
            false≢true
            (sym other
            ∙ (and-eq-true_iff (is_cid owner sender) (names channel v d)).1
            (is_sender owner sender sized m.0, wrapper_names channel v d c.readable c.wrapper m.1))

        -- so a plan is another record's
        plan_other : Sized s.table (lent_as held s.held) deliver reply sender ours v d n → (k : ℕ) → Carries s.table (cid_at sender 0) v d k
            → Stands (plan_outcome s.table (lent_as held s.held) k (brought v d) (contents d) (taken (record_at s.table k) (brought v d)))
        plan_other sized k c =
            let sizes = message_sizes_lem _ _ deliver reply _ _ sized in
            let lent : eqb held (length s.held) ≡ true =
            eq-eqb held (length s.held) (sym (lent_length held s.held) ∙ sizes.0 ∙ sym right.size) in
            let below : k < 8 = omega (arith, c.within, right.eight) in
            let fits =
            plan_fits (record_at s.table k) (brought v d) c.used (it.formed.each k) (right.sound k below).four c.most in
            let z = not_met sizes.1 k c in
            rw lent
            (ap₂ (λ (r : Record) (h : List ℕ). record { at = r; held = h })
            (set_there s.table k _ i (λ e. z (sym e)))
            (slab_other k (taken (record_at s.table k) (brought v d)).fate (contents d) s.held below fits.place c.most right.size i z))
