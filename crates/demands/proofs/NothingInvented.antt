-- Nothing is invented: every wrapper that a run delivers for a channel has the contents and the numbers of a wrapper message that the channel's owner
-- sent it in this run and that was not refused, or of one that it held at the start (`nothing_invented`). As that is so of every run, it is so of every beginning of one: nothing
-- is delivered before it came. And every NAK that a run sends for the channel carries R and asks for the range that 01 gives:
-- at least one number from R + 1 on, none past K, the highest that is known to have been sent, and none that is held (`only_missing`). Both assume that the channel is
-- joined in a right table at the start and that the data of messages are octets (`Joined`, `Lawful`); the example at the end meets that, delivers two
-- wrappers and sends a NAK.
use Prim.Native.Nat.{ℕ, ◌<◌, ◌≤◌}
use mathlib.Core.Bool.{Bool, true, false, false≢true, cond}
use mathlib.Core.List.{List, [], ◌∷◌, ◌++◌, map}
use mathlib.Core.Logic.{◌⊎◌, inl, inr, ◌≢◌}
use mathlib.Core.Path.{◌≡◌, refl, sym, ap, subst, ◌∙◌}
use native.Mathlib.Omega.{arith}
use lib.Dec.{eqb}
use lib.ListN.{length, get_or, take}
use Rattle.std.specs.Prelude.{None}
use Rattle.counter.specs.Distance.{turn, ahead, distance}
use Rattle.counter.specs.declared.Reliable.{Reliable}
use Rattle.octets.specs.Octets.{number, part}
use Rattle.octets.proofs.Writes.{part_splice}
use Rattle.message.specs.Lengths.{reliable_wrapper, look, length_of}
use Rattle.message.specs.Layouts.{total, reliable, cid_at, wrapper_of}
use Rattle.message.specs.Reading.{readable, contents}
use Rattle.message.specs.declared.Cid.{Cid}
use Rattle.record.specs.WellFormed.{most_contents, closed, well_formed}
use Rattle.record.specs.With.{freed, with_numbers}
use Rattle.record.specs.declared.Place.{Place}
use Rattle.record.specs.declared.Record.{Record}
use Rattle.record.proofs.Formed.{formed}
use Rattle.record.proofs.Choices.{never}
use Rattle.gap.proofs.Moves.{Move, stands, expires, lost, goes_on, moves, Next, quiet, stands_on, asks, waits_on, once_more}
use Rattle.gap.specs.Range.{OnlyMissing}
use Rattle.gap.proofs.Range.{nak_asks}
use Rattle.gap.specs.Elapsed.{in_standoff, phased, elapsed_of}
use Rattle.gap.specs.Range.{nearer, nearest, nak_last, nak_first}
use Rattle.gap.specs.declared.Elapsed.{Elapsed}
use Rattle.gap.specs.declared.Event.TheVariants as event
use Rattle.wrapper.specs.Judge.{consistent, judged_by, judged, farther, heard}
use Rattle.wrapper.specs.Hold.{next_one, holds, lowest_free, place_for, held_as, put_in, placed}
use Rattle.record.specs.Places.{no_place}
use Rattle.wrapper.specs.Release.{next_held, release_at, release_from, released}
use Rattle.wrapper.specs.Settle.{gapped, asked, spared, acknowledged, settled}
use Rattle.wrapper.specs.Taken.{taken, stepped}
use Rattle.wrapper.specs.declared.Arrived.{Arrived}
use Rattle.wrapper.specs.declared.Fate.{Fate}
use Rattle.wrapper.specs.declared.Fate.TheVariants as fate
use Rattle.wrapper.specs.declared.Plan.{Plan}
use Rattle.wrapper.specs.Since.{Freed}
use Rattle.table.specs.Table.{same, record_at}
use Rattle.sending.specs.Sent.{event_of}
use Rattle.carry.specs.Carried.{Delivered, place_begins, held_after, at_once, from_place, delivered_by}
use Rattle.carry.proofs.Carrying.{place_ends}
use Rattle.carry.proofs.DeliveredLength.{of_first}
use Rattle.carry.proofs.OwnPlaces.{other_place}
use Rattle.record.proofs.Stored.{used_below}
use Rattle.record.specs.declared.Gap.{Gap}
use Rattle.record.specs.declared.Gap.TheVariants as gap
use Rattle.gap.specs.declared.Event.{Event}
use Rattle.carry.proofs.PlanFits.{Kept, Taking, taking}
use Rattle.member.specs.Sizes.{message_sizes, elapsed_sizes}
use Rattle.demands.specs.Runs.{Came, run, own_of, alone, shown, Each, none, more}
use Rattle.demands.specs.Calls as calls
use Rattle.demands.specs.Calls.{Call, State, table_step, Lawful}
use Rattle.demands.specs.Channel.{Channel, Told, names, is_cid, own, wrapper_on, one, live, channel_at, view_at, passed, planned, elapsed_on, slab}
use Rattle.demands.specs.Order.{delivered_in, delivered_all, as_sent, BroughtBy, here, later, From, received, kept, NakRight}
use Rattle.demands.proofs.Lemmas.Lists.{each_to, each_append, each_of}
use Rattle.demands.proofs.Lemmas.Running.{along}
use Rattle.demands.proofs.Lemmas.Slabs.{slab_place, slab_after}
use Rattle.demands.proofs.Lemmas.OneStep.{refuses, joins, brought, Does, answers, wraps, passes, leaves, does}
use Rattle.demands.proofs.Lemmas.Owned.{Has, it_has}
use Rattle.demands.proofs.Lemmas.Agreeing.{elapsed_places}
use Rattle.demands.specs.TwoRuns.{Joined}
use Rattle.demands.proofs.Lemmas.OwnLaw.{own_law}
use Rattle.demands.proofs.OwnStepsOnly.{own_run}
use Rattle.demands.proofs.Lemmas.Sample as sample

-- ---- one step

-- a wrapper that step 3 holds is a reliable one
held_reliable : (r : Record) (w : Arrived) (j : ℕ) → (taken r w).fate ≡ fate.Held j → w.reliably ≡ true
unfolding taken placed place_for
held_reliable r w j e = by (next_one (heard r w.reliable) w) w.reliably refl e
  where
    h : Record
    h = heard r w.reliable

    by : (next reliably : Bool) → w.reliably ≡ reliably
        → (cond next
        (record { after = with_numbers h w.total w.reliable; fate = fate.Delivered })
        (put_in h w (cond reliably (cond (holds w.reliable h.places) None (lowest_free h.places)) None))
        ).fate
        ≡ fate.Held j
        → w.reliably ≡ true
    by true reliably q f = never (cc)
    by false true q f = q
    by false false q f = never (cc)

-- what comes from places that stand comes from them one call earlier
stood : {x : Delivered} {c : Call} {cs : List Call} {m : Came Channel Told} {ms : List (Came Channel Told)} (g h : Channel) → g.at.places ≡ h.at.places
    → g.held ≡ h.held → From g cs ms x → From h (c ∷ cs) (m ∷ ms) x
stood g h p q (received b) = received (later b)
stood {x} g h p q (kept j u e) =
    kept j
    (subst (λ (ps : List Place). (get_or ps j no_place).used ≡ true) p u)
    (subst (λ (o : List ℕ). x ≡ from_place o 0 j (get_or h.at.places j no_place)) q
    (subst (λ (ps : List Place). x ≡ from_place g.held 0 j (get_or ps j no_place)) p e))

-- a wrapper that is held is as it was sent
as_held : (octets : List ℕ) (v : ℕ) (d : List ℕ) (j : ℕ) → eqb v reliable_wrapper ≡ true → part octets (place_begins 0 j) (length (contents d)) ≡ contents d
    → from_place octets 0 j (held_as (brought v d)) ≡ as_sent v d
as_held octets v d j e p = rw (e, p)

module _ (i : ℕ) (owner : Cid) (channel : ℕ) (s : State) (joined : Joined i owner channel s) where
  it : Has i owner channel s joined.right joined.has
  it = it_has i owner channel s joined.right joined.has

  module _ (v : ℕ) (d : List ℕ) (most : length (contents d) ≤ most_contents) where
    abbrev r : Record
    r = record_at s.table i

    abbrev plan : Plan
    plan = taken r (brought v d)

    -- the places after step 3, and the octets that the step leaves
    abbrev between : List Place
    between = (placed (heard r (brought v d).reliable) (brought v d)).after.places

    abbrev octets : List ℕ
    octets = held_after 0 plan.fate (contents d) (slab i s.held)

    t : Taking r (brought v d) between plan
    t = taking r (brought v d) it.four

    in_slab : (j n : ℕ) → j < 4 → n ≤ most_contents
        → part octets (place_begins 0 j) n ≡ part (held_after i plan.fate (contents d) s.held) (place_begins i j) n
    in_slab j n hj hn =
        ap (λ (o : List ℕ). part o (place_begins 0 j) n)
        (sym (slab_after i plan.fate (contents d) s.held it.below t.below most joined.right.size))
        ∙ slab_place i j n (held_after i plan.fate (contents d) s.held) hj hn

    -- what is written into a place is there
    written : (j : ℕ) → plan.fate ≡ fate.Held j → part octets (place_begins 0 j) (length (contents d)) ≡ contents d
    written j e =
        in_slab j (length (contents d)) (t.below j e) most
        ∙ ap (λ (f : Fate). part (held_after i f (contents d) s.held) (place_begins i j) (length (contents d))) e
        ∙ part_splice s.held (place_begins i j) (contents d)
        (omega (arith, place_ends i j (length (contents d)) it.below (t.below j e) most, joined.right.size))

    -- a place that the wrapper is not held in is as it was
    beside : (j n : ℕ) → j < 4 → n ≤ most_contents → plan.fate ≢ fate.Held j → part octets (place_begins 0 j) n ≡ part (slab i s.held) (place_begins 0 j) n
    beside j n hj hn z =
        in_slab j n hj hn
        ∙ other_place i plan.fate (contents d) s.held it.below t.below most joined.right.size i j n hn
        (λ k e q.
        let same : j ≡ k = omega arith in
        z (rw same e))
        ∙ sym (slab_place i j n s.held hj hn)

    module _
        (c : Call)
        (cs : List Call)
        (m : Came Channel Told)
        (ms : List (Came Channel Told))
        (brings : BroughtBy (as_sent v d) (c ∷ cs) (m ∷ ms))
      where
        abbrev Known : Delivered → Type 0
        Known = From (channel_at i s) (c ∷ cs) (m ∷ ms)

        -- a place that is used after step 3 holds the wrapper itself, or what it held before
        place_from : (j : ℕ) → (get_or between j no_place).used ≡ true → Known (from_place octets 0 j (get_or between j no_place))
        unfolding channel_at
        place_from j u = by (t.kept j u)
          where
            by : Kept r (brought v d) plan.fate between j → Known (from_place octets 0 j (get_or between j no_place))
            by (inl a) =
                subst Known
                (sym
                (ap (from_place octets 0 j) a.1
                ∙ as_held octets v d j (held_reliable r (brought v d) j a.0) (written j a.0)))
                (received brings)
            by (inr a) =
                let used = subst (λ (p : Place). p.used ≡ true) a.1 u in
                let below : j < 4 = omega (arith, used_below r.places j used, it.four) in
                let fits = ((formed r (it.formed.each i) it.used).held j used).contents in
                subst (λ (p : Place). Known (from_place octets 0 j p)) (sym a.1)
                (kept j used
                (ap (λ (o : List ℕ). record { delivery = (from_place octets 0 j (get_or r.places j no_place)).delivery; contents = o })
                (beside j _ below fits a.0)))

        -- what is in the places after the step
        after_from : (x : Delivered) → From (planned (channel_at i s) (brought v d) (contents d) plan).state cs ms x → Known x
        unfolding planned channel_at
        after_from x (received b) = received (later b)
        after_from x (kept j u e) = by (t.each j)
          where
            by : (get_or plan.after.places j no_place ≡ get_or between j no_place) ⊎ Freed (get_or between j no_place) (get_or plan.after.places j no_place)
                → Known x
            by (inl q) =
                subst Known (sym (e ∙ ap (from_place octets 0 j) q)) (place_from j (subst (λ (p : Place). p.used ≡ true) q u))
            by (inr f) = absurd (false≢true (sym (ap (λ (p : Place). p.used) f.1) ∙ u))

        -- what the step delivers
        at_once_lem : (f : Fate) → Each Known (at_once f (brought v d) (contents d))
        at_once_lem fate.Delivered = more (received brings) none
        at_once_lem (fate.Held j) = none
        at_once_lem fate.Dropped = none

        delivered_from : Each Known (delivered_by (slab i s.held) 0 (brought v d) (contents d) plan)
        unfolding delivered_by
        delivered_from =
            each_append (at_once plan.fate (brought v d) (contents d)) _ (at_once_lem plan.fate)
            (each_of (λ j. from_place octets 0 j (get_or plan.after.places j no_place)) (take plan.count plan.order)
            (of_first (λ j. Known (from_place octets 0 j (get_or plan.after.places j no_place))) plan.count plan.order
            (λ k l.
            let f = t.ordered k l in
            let j = get_or plan.order k 0 in
            subst (λ (p : Place). Known (from_place octets 0 j p)) (sym f.1) (place_from j f.0))))

  -- what an own call delivers is known, and so is what goes on from there
  step_from : {c : Call} {m : Came Channel Told} → Does (channel_at i s) c m → (cs : List Call) (ms : List (Came Channel Told)) (xs : List Delivered)
      → Each (From m.state cs ms) xs → Each (From (channel_at i s) (c ∷ cs) (m ∷ ms)) (delivered_in m.answer ++ xs)
  unfolding planned elapsed_on channel_at
  step_from (answers t (refuses n) z) cs ms xs rest = each_to xs (λ x. stood (channel_at i s) (channel_at i s) refl refl) rest
  step_from (answers t (joins d reply) z) cs ms xs rest = each_to xs (λ x. stood (channel_at i s) (channel_at i s) refl refl) rest
  step_from (wraps v d w fits fresh) cs ms xs rest =
      each_append (delivered_by (slab i s.held) 0 (brought v d) (contents d) (taken (record_at s.table i) (brought v d))) xs
      (delivered_from v d fits _ cs _ ms (here w refl refl)) (each_to xs (after_from v d fits _ cs _ ms (here w refl refl)) rest)
  step_from (passes t) cs ms xs rest =
      each_to xs (λ x. stood (elapsed_on (channel_at i s) t).state (channel_at i s) (elapsed_places (record_at s.table i) t) refl) rest
  step_from (leaves reason) cs ms xs rest =
      each_to xs (λ x. stood (record { at = freed (record_at s.table i); held = slab i s.held }) (channel_at i s) refl refl) rest

-- ---- the run

pub nothing_invented : (i : ℕ) (owner : Cid) (channel : ℕ) (s : State) (cs : List Call) → Each Lawful cs → Joined i owner channel s
    → Each (From (channel_at i s) (own_of (own owner channel) cs) (shown (own owner channel) (view_at i) live (run table_step s cs)))
    (delivered_all (shown (own owner channel) (view_at i) live (run table_step s cs)))
unfolding delivered_all
nothing_invented i owner channel s cs each joined =
    along (own_law i owner channel) (λ h ocs ms. Each (From h ocs ms) (delivered_all ms))
    (λ h. none)
    (λ r c ds ms j w e alive rest. step_from i owner channel r j (does (channel_at i r) owner c) ds ms (delivered_all ms) rest)
    (λ r c ds j w e dead. step_from i owner channel r j (does (channel_at i r) owner c) ds [] [] none)
    s cs each joined

-- ---- NAKs

-- the NAK of a record, by the definition
nak_is : (r : Record) (ms : ℕ) (n first last : Reliable) (outbound : Bool) {o : Elapsed} → Move r ms o → o.event ≡ event.Nak n first last outbound
    → (first ≡ nak_first r) × (last ≡ nak_last r) × (outbound ≡ r.terms.outbound)
nak_is r ms n first last outbound (stands u) e = never (cc)
nak_is r ms n first last outbound (expires u x) e = never (cc)
nak_is r ms n first last outbound (lost u x g l c) e = never (cc)
nak_is r ms n first last outbound (goes_on u x m) e = by r.gap m e
  where
    by : (g : Gap) {h : Gap} {o : Event} → Next r ms g h o → o ≡ event.Nak n first last outbound
        → (first ≡ nak_first r) × (last ≡ nak_last r) × (outbound ≡ r.terms.outbound)
    by gap.Quiet quiet e = never (cc)
    by (gap.Standoff left count) (stands_on l) e = never (cc)
    by (gap.Waiting left count) (waits_on l) e = never (cc)
    by (gap.Waiting left count) (once_more l c) e = never (cc)
    by (gap.Standoff left count) (asks l) e =
        let f : first ≡ nak_first r = cc in
        let t : last ≡ nak_last r = cc in
        let b : outbound ≡ r.terms.outbound = cc in
        (f, t, b)

-- elapsed time lets R, K, the places and the terms stand
move_right : (r : Record) (ms : ℕ) (n first last : Reliable) (outbound : Bool) {o : Elapsed} → Move r ms o
    → (n ≡ r.reliable) × OnlyMissing r.reliable.0 r.known.0 r.places first.0 last.0
    → (first ≡ nak_first r) × (last ≡ nak_last r) × (outbound ≡ r.terms.outbound)
    → (n ≡ o.after.reliable)
    × (first ≡ nak_first o.after)
    × (last ≡ nak_last o.after)
    × (outbound ≡ o.after.terms.outbound)
    × OnlyMissing o.after.reliable.0 o.after.known.0 o.after.places first.0 last.0
unfolding nak_first nak_last
move_right r ms n first last outbound (stands u) a b = (a.0, b.0, b.1, b.2, a.1)
move_right r ms n first last outbound (expires u x) a b = (a.0, b.0, b.1, b.2, a.1)
move_right r ms n first last outbound (lost u x g l c) a b = (a.0, b.0, b.1, b.2, a.1)
move_right r ms n first last outbound (goes_on u x m) a b = (a.0, b.0, b.1, b.2, a.1)

step_right : (h : Channel) {c : Call} {m : Came Channel Told} → Does h c m → h.at.reliable.0 < turn → h.at.known.0 < turn → well_formed h.at ≡ true
    → NakRight m
unfolding planned elapsed_on
step_right h (answers t (refuses k) z) hr hk w n first last outbound octets e = never (cc)
step_right h (answers t (joins d reply) z) hr hk w n first last outbound octets e = never (cc)
step_right h (wraps v d u fits fresh) hr hk w n first last outbound octets e = never (cc)
step_right h (passes ms) hr hk w n first last outbound octets e =
    let sent : (elapsed_of h.at ms).event ≡ event.Nak n first last outbound = cc in
    move_right h.at ms n first last outbound (moves h.at ms) (nak_asks h.at ms hr hk w n first last outbound sent)
    (nak_is h.at ms n first last outbound (moves h.at ms) sent)
step_right h (leaves reason) hr hk w n first last outbound octets e = never (cc)

right_of : (i : ℕ) (owner : Cid) (channel : ℕ) (s : State) (c : Call) → Joined i owner channel s → NakRight (one owner (channel_at i s) c)
unfolding channel_at
right_of i owner channel s c j =
    let has = it_has i owner channel s j.right j.has in
    let sound = j.right.sound i has.below in
    step_right (channel_at i s) (does (channel_at i s) owner c) sound.reliable sound.known (has.formed.each i)

-- so no number that is asked for is held
pub asked_not_held : {r k : ℕ} {ps : List Place} {first last : ℕ} → OnlyMissing r k ps first last → (x : ℕ) → ahead r x ≤ ahead r last
    → (j : ℕ) → (get_or ps j no_place).used ≡ true → (get_or ps j no_place).reliable.0 ≢ x
asked_not_held {r} {k} {ps} {first} {last} a x within j used e =
    let beyond = a.missing j used in
    absurd (omega (arith, subst (λ y. ahead r last < ahead r y) e beyond, within))

pub only_missing : (i : ℕ) (owner : Cid) (channel : ℕ) (s : State) (cs : List Call) → Each Lawful cs → Joined i owner channel s
    → Each NakRight (shown (own owner channel) (view_at i) live (run table_step s cs))
only_missing i owner channel s cs each joined =
    along (own_law i owner channel) (λ h ocs ms. Each NakRight ms)
    (λ h. none)
    (λ r c ds ms j w e alive rest. more (right_of i owner channel r c j) rest)
    (λ r c ds j w e dead. more (right_of i owner channel r c j) none)
    s cs each joined

-- ---- an example: channel 7 of the first owner holds 12 and misses 11, which comes; or time passes and it asks for 11

abbrev pub comes : List Call
comes = sample.wrapper_call (sample.cid 1 2) 11 (4 ∷ 5 ∷ 6 ∷ []) ∷ []

pub lawful_comes : Each Lawful comes
lawful_comes = more (sample.lawful (sample.wrapper_data 11 (4 ∷ 5 ∷ 6 ∷ [])) refl) none

pub own_comes : own_of (own sample.first 7) comes ≡ comes
unfolding own_of own is_cid cid_at number same names readable length_of look wrapper_of
own_comes = refl

-- 11 is delivered as it came, and 12 as it was held
delivers : (held : List ℕ)
    → delivered_all (alone (one sample.first) live (record { at = sample.holding sample.first; held = held }) comes)
    ≡ as_sent reliable_wrapper (sample.wrapper_data 11 (4 ∷ 5 ∷ 6 ∷ []))
    ∷ from_place held 0 0 (record { used = true; total = total 12; reliable = reliable 12; len = 3 })
    ∷ []
unfolding alone delivered_all one message_sizes wrapper_on wrapper_of number stepped judged judged_by consistent distance
    taken heard farther placed next_one released release_from release_at next_held settled gapped closed acknowledged asked spared planned delivered_by
delivers held = refl

pub delivers_both : delivered_all (shown (own sample.first 7) (view_at 2) live (run table_step (sample.state_of sample.free 0) comes))
    ≡ as_sent reliable_wrapper (sample.wrapper_data 11 (4 ∷ 5 ∷ 6 ∷ []))
    ∷ from_place (slab 2 (sample.held_of 0)) 0 0 (record { used = true; total = total 12; reliable = reliable 12; len = 3 })
    ∷ []
unfolding channel_at
delivers_both =
    ap delivered_all (own_run 2 sample.first 7 (sample.state_of sample.free 0) comes lawful_comes sample.joined_one)
    ∙ ap (λ (cs : List Call). delivered_all (alone (one sample.first) live (channel_at 2 (sample.state_of sample.free 0)) cs)) own_comes
    ∙ delivers (slab 2 (sample.held_of 0))

both_known : Each
    (From (channel_at 2 (sample.state_of sample.free 0)) (own_of (own sample.first 7) comes)
    (shown (own sample.first 7) (view_at 2) live (run table_step (sample.state_of sample.free 0) comes)))
    (delivered_all (shown (own sample.first 7) (view_at 2) live (run table_step (sample.state_of sample.free 0) comes)))
both_known = nothing_invented 2 sample.first 7 (sample.state_of sample.free 0) comes lawful_comes sample.joined_one

-- after the 50 milliseconds of its standoff the channel asks for 11 and no more
abbrev waits : List Call
waits = calls.elapsed 512 50 ∷ []

asks_for : (held : List ℕ)
    → map (λ (m : Came Channel Told). m.answer) (alone (one sample.first) live (record { at = sample.holding sample.first; held = held }) waits)
    ≡ passed (event.Nak (reliable 10) (reliable 11) (reliable 11) false)
    (event_of (sample.holding sample.first).terms (event.Nak (reliable 10) (reliable 11) (reliable 11) false))
    ∷ []
unfolding alone one elapsed_on elapsed_of phased in_standoff nak_first nak_last nearest nearer
asks_for held = refl

asks_missing : map (λ (m : Came Channel Told). m.answer) (shown (own sample.first 7) (view_at 2) live (run table_step (sample.state_of sample.free 0) waits))
    ≡ passed (event.Nak (reliable 10) (reliable 11) (reliable 11) false)
    (event_of (sample.holding sample.first).terms (event.Nak (reliable 10) (reliable 11) (reliable 11) false))
    ∷ []
unfolding own_of own elapsed_sizes channel_at
asks_missing =
    ap (map (λ (m : Came Channel Told). m.answer))
    (own_run 2 sample.first 7 (sample.state_of sample.free 0) waits (more tt none) sample.joined_one)
    ∙ asks_for (slab 2 (sample.held_of 0))

asks_right : Each NakRight (shown (own sample.first 7) (view_at 2) live (run table_step (sample.state_of sample.free 0) waits))
asks_right = only_missing 2 sample.first 7 (sample.state_of sample.free 0) waits (more tt none) sample.joined_one
