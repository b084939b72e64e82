-- A channel looks at its held octets only in its used places: with one record and octets that agree there, each of its own calls leads to one
-- record, answers the same and leaves the same contents held (`one_tells`). Assumes of the record that it is used, well formed and has four places.
use Prim.Native.Nat.{ℕ, ◌<◌, ◌≤◌}
use mathlib.Core.Bool.{Bool, true, false, false≢true, cond}
use mathlib.Core.List.{List, []}
use mathlib.Core.Logic.{◌⊎◌, inl, inr}
use mathlib.Core.Path.{◌≡◌, refl, sym, ap, subst, ◌∙◌}
use native.Mathlib.Omega.{arith}
use lib.Dec.{ltb, eqb, lit<}
use lib.ListN.{length, get_or}
use borrow.Author.Tests.{ltb-false}
use Rattle.std.specs.Prelude.{Result, Ok, Err}
use Rattle.octets.specs.Octets.{part}
use Rattle.message.specs.Lengths.{reliable_wrapper}
use Rattle.message.specs.Layouts.{cid_at, wrapper_of, join_of}
use Rattle.message.specs.Reading.{contents}
use Rattle.message.specs.declared.Cid.{Cid}
use Rattle.refusal.specs.declared.Refusal.{Refusal}
use Rattle.record.specs.Reasons.{leaving_reason}
use Rattle.record.specs.WellFormed.{most_contents, well_formed}
use Rattle.record.specs.With.{freed}
use Rattle.record.specs.declared.Place.{Place}
use Rattle.record.specs.declared.Record.{Record}
use Rattle.record.proofs.Formed.{formed}
use Rattle.gap.specs.Elapsed.{elapsed_of}
use Rattle.gap.specs.declared.Elapsed.{Elapsed}
use Rattle.gap.proofs.Moves.{Move, stands, expires, lost, goes_on, moves}
use Rattle.wrapper.specs.Judge.{heard}
use Rattle.wrapper.specs.Hold.{placed}
use Rattle.record.specs.Places.{no_place}
use Rattle.wrapper.specs.Taken.{taken, stepped}
use Rattle.wrapper.specs.declared.Arrived.{Arrived}
use Rattle.wrapper.specs.declared.Plan.{Plan}
use Rattle.wrapper.specs.Since.{Freed}
use Rattle.table.specs.Table.{same}
use Rattle.sending.specs.Sent.{reply_of}
use Rattle.carry.specs.Carried.{Delivered, place_begins, held_after}
use Rattle.carry.specs.Fits.{Fits}
use Rattle.carry.proofs.PlanFits.{Kept, Taking, taking, plan_fits, stepped_taken}
use Rattle.carry.proofs.HeldAgree.{AgreeAt, Agree, held_agree, agree_after}
use Rattle.asking.specs.Asking.{arrived_of}
use Rattle.member.specs.Sizes.{message_sizes, leave_sizes, table_size}
use Rattle.demands.specs.Runs.{Came}
use Rattle.demands.specs.Calls as calls
use Rattle.demands.specs.Calls.{Call}
use Rattle.demands.specs.Refusals.{is_wrapper}
use Rattle.demands.specs.Channel.{Channel, Told, wrapped, stays, planned, by_step, wrapper_on, join_on, elapsed_on, leave_on, one, slab}
use Rattle.demands.specs.TwoRuns.{contents_at, held_contents}
use Rattle.demands.proofs.Lemmas.Slabs.{slab_place, slab_after, slab_delivered}

-- one record, one answer, and the same contents held
pub record Tells (m n : Came Channel Told) : Type 0 where
  pub at : m.state.at ≡ n.state.at
  pub told : m.answer ≡ n.answer
  pub contents : held_contents m.state ≡ held_contents n.state

-- octets that agree in the used places of a record are the same contents
same_contents : (q : Record) (x y : List ℕ) → ((j : ℕ) → j < 4 → (get_or q.places j no_place).used ≡ true → AgreeAt 0 q.places x y j)
    → held_contents (record { at = q; held = x }) ≡ held_contents (record { at = q; held = y })
unfolding held_contents
same_contents q x y agree = rw (at 0 (lit< tt), at 1 (lit< tt), at 2 (lit< tt), at 3 (lit< tt))
  where
    at : (j : ℕ) → j < 4 → contents_at (record { at = q; held = x }) j ≡ contents_at (record { at = q; held = y }) j
    at j l = by (get_or q.places j no_place).used refl
      where
        by : (b : Bool) → (get_or q.places j no_place).used ≡ b
            → cond b (part x (place_begins 0 j) (get_or q.places j no_place).len) []
            ≡ cond b (part y (place_begins 0 j) (get_or q.places j no_place).len) []
        by true u = agree j l u
        by false u = refl

-- both sides of a choice tell the same
either : (b : Bool) (m n k l : Came Channel Told) → (b ≡ true → Tells m k) → (b ≡ false → Tells n l) → Tells (cond b m n) (cond b k l)
either true m n k l p q = p refl
either false m n k l p q = q refl

-- elapsed time lets the places stand
pub elapsed_places : (r : Record) (ms : ℕ) → (elapsed_of r ms).after.places ≡ r.places
elapsed_places r ms = by (moves r ms)
  where
    by : {o : Elapsed} → Move r ms o → o.after.places ≡ r.places
    by (stands u) = refl
    by (expires u x) = refl
    by (lost u x g l c) = refl
    by (goes_on u x m) = refl

module _
    (i : ℕ)
    (hi : i < 8)
    (r : Record)
    (used : r.used ≡ true)
    (well : well_formed r ≡ true)
    (four : length r.places ≡ 4)
    (h g : List ℕ)
    (room-h : length h ≡ 46528)
    (room-g : length g ≡ 46528)
    (agree : Agree i r.places h g)
  where
    -- the channel with these held octets
    abbrev with : List ℕ → Channel
    with s = record { at = r; held = slab i s }

    -- contents that are held fit their place
    small : (j : ℕ) → (get_or r.places j no_place).used ≡ true → (get_or r.places j no_place).len ≤ most_contents
    small j u = ((formed r well used).held j u).contents

    slabs_agree : (j : ℕ) → j < 4 → (get_or r.places j no_place).used ≡ true → AgreeAt 0 r.places (slab i h) (slab i g) j
    slabs_agree j l u = slab_place i j _ h l (small j u) ∙ agree j u ∙ sym (slab_place i j _ g l (small j u))

    -- a record with the same places over octets that stand
    moved : (q : Record) → q.places ≡ r.places → (t : Told)
        → Tells (stays (record { at = q; held = slab i h }) t) (stays (record { at = q; held = slab i g }) t)
    moved q e t =
        record {
          at = refl;
          told = refl;
          contents =
              same_contents q (slab i h) (slab i g)
              (subst
              (λ (ps : List Place). (j : ℕ) → j < 4 → (get_or ps j no_place).used ≡ true → AgreeAt 0 ps (slab i h) (slab i g) j)
              (sym e) slabs_agree);
        }

    stood : (t : Told) → Tells (stays (with h) t) (stays (with g) t)
    stood t = moved r refl t

    -- ---- a wrapper's step

    module _ (w : Arrived) (c : List ℕ) (said : w.len ≡ length c) (most : length c ≤ most_contents) where
      fits : Fits (taken r w)
      fits = plan_fits r w used well four (omega arith)

      -- what the step holds fits its place too
      after_small : (j : ℕ) → (get_or (taken r w).after.places j no_place).used ≡ true → (get_or (taken r w).after.places j no_place).len ≤ most_contents
      after_small j u = by (t.each j)
        where
          between : List Place
          between = (placed (heard r w.reliable) w).after.places

          t : Taking r w between (taken r w)
          t = taking r w four

          held : (get_or between j no_place).used ≡ true → Kept r w (taken r w).fate between j → (get_or between j no_place).len ≤ most_contents
          held v (inl a) = subst (λ (p : Place). p.len ≤ most_contents) (sym a.1) (omega arith)
          held v (inr a) =
              subst (λ (p : Place). p.len ≤ most_contents) (sym a.1) (small j (subst (λ (p : Place). p.used ≡ true) a.1 v))

          by : (get_or (taken r w).after.places j no_place ≡ get_or between j no_place) ⊎ Freed (get_or between j no_place) (get_or (taken r w).after.places j no_place)
              → (get_or (taken r w).after.places j no_place).len ≤ most_contents
          by (inl q) =
              let v = subst (λ (p : Place). p.used ≡ true) q u in
              subst (λ (p : Place). p.len ≤ most_contents) (sym q) (held v (t.kept j v))
          by (inr f) = absurd (false≢true (sym (ap (λ (p : Place). p.used) f.1) ∙ u))

      after_agree : (j : ℕ) → j < 4 → (get_or (taken r w).after.places j no_place).used ≡ true
          → AgreeAt 0 (taken r w).after.places (held_after 0 (taken r w).fate c (slab i h)) (held_after 0 (taken r w).fate c (slab i g)) j
      after_agree j l u =
          let octets : List ℕ → List ℕ = λ s. part s (place_begins 0 j) (get_or (taken r w).after.places j no_place).len in
          let n = after_small j u in
          ap octets (sym (slab_after i (taken r w).fate c h hi fits.place most room-h))
          ∙ slab_place i j _ (held_after i (taken r w).fate c h) l n
          ∙ agree_after r w used well four c said most i hi h g room-h room-g agree j u
          ∙ sym (slab_place i j _ (held_after i (taken r w).fate c g) l n)
          ∙ ap octets (slab_after i (taken r w).fate c g hi fits.place most room-g)

      taken_tells : Tells (planned (with h) w c (taken r w)) (planned (with g) w c (taken r w))
      unfolding planned
      taken_tells =
          record {
            at = refl;
            told =
                ap (λ (ds : List Delivered). wrapped (taken r w).fate (taken r w).thrown ds (reply_of (taken r w).after.terms (taken r w).reply))
                (sym (slab_delivered h i w c (taken r w) fits hi most room-h)
                ∙ held_agree r w used well four c said most i hi h g room-h room-g agree
                ∙ slab_delivered g i w c (taken r w) fits hi most room-g);
            contents = same_contents (taken r w).after _ _ after_agree;
          }

      step_tells : (o : Result Plan Refusal) → stepped r w ≡ o → Tells (by_step (with h) w c o) (by_step (with g) w c o)
      step_tells (Ok p) e =
          subst (λ (q : Plan). Tells (planned (with h) w c q) (planned (with g) w c q)) (sym (stepped_taken r w p e)) taken_tells
      step_tells (Err why) e = stood _

    wrapper_tells : (v : ℕ) (d : List ℕ) → Tells (wrapper_on (with h) v d) (wrapper_on (with g) v d)
    unfolding wrapper_on
    wrapper_tells v d =
        let w = arrived_of (eqb v reliable_wrapper) (wrapper_of d) (length (contents d)) in
        either (ltb most_contents (length (contents d))) _ _ _ _
        (λ e. stood _)
        (λ e. step_tells w (contents d) refl (ltb-false most_contents (length (contents d)) e) (stepped r w) refl)

    -- ---- every call

    pub one_tells : (owner : Cid) (c : Call) → Tells (one owner (with h) c) (one owner (with g) c)
    unfolding one join_on elapsed_on leave_on
    one_tells owner (calls.message held deliver reply sender ours v d n) =
        either (message_sizes table_size held deliver reply (length sender) (length ours)) _ _ _ _
        (λ e.
        either (is_wrapper v) _ _ _ _
        (λ u. wrapper_tells v d)
        (λ u. either (same (join_of d).cid (cid_at ours 0)) _ _ _ _ (λ z. stood _) (λ z. stood _)))
        (λ e. stood _)
    one_tells owner (calls.elapsed cells ms) = moved (elapsed_of r ms).after (elapsed_places r ms) _
    one_tells owner (calls.leave reply sender named reason) =
        either (leave_sizes table_size reply (length sender)) _ _ _ _
        (λ e. either (leaving_reason reason) _ _ _ _ (λ z. moved (freed r) refl _) (λ z. stood _))
        (λ e. stood _)
