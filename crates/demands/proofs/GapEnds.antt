-- A gap ends (01, "One channel"): add up the accepted elapsed times from the call on in which a channel's gap begins. By the time they exceed NAK_MAX_RETRIES rounds of a
-- whole standoff, a whole wait and two seconds for the calls that pass their ends, the gap has closed or the channel is left, whatever other calls lie between (`gap_ends`).
-- Assumes that the channel is joined in a right table and that the data of messages are octets; the example at the end meets all that is assumed.
use Prim.Native.Nat.{ℕ, zero, suc, ◌+◌, ◌-◌, ◌*◌, ◌<◌, ◌≤◌}
use mathlib.Core.Bool.{Bool, true, false, false≢true, not, ◌||◌, and-eq-true_iff}
use mathlib.Core.List.{List, [], ◌∷◌}
use mathlib.Core.Path.{◌≡◌, refl, sym, ap, subst, ◌∙◌}
use mathlib.Core.Logic.{◌≢◌}
use native.Mathlib.Nat.{suc-mul, sub-zero}
use native.Mathlib.Omega.{arith}
use lib.Dec.{ltb, lit<}
use lib.ListN.{replicate}
use borrow.Author.Tests.{not-true, ltb-false, eqb-false, eqb-true}
use Rattle.octets.specs.Octets.{number}
use Rattle.counter.specs.Distance.{distance}
use Rattle.message.specs.Lengths.{look, length_of}
use Rattle.message.specs.Layouts.{total, reliable, cid_at, wrapper_of}
use Rattle.message.specs.Reading.{readable, contents}
use Rattle.message.specs.declared.Cid.{Cid}
use Rattle.record.specs.Places.{no_place}
use Rattle.record.specs.Legal.{legal_names, legal_parameters}
use Rattle.record.specs.Profile.{min_expiry, nak_timeout_factor, nak_timeout, max_retries}
use Rattle.record.specs.WellFormed.{held_right, apart, apart_from, held_apart, held_all_right, closed, gap_right, terms_right, well_formed}
use Rattle.record.specs.declared.Gap.{Gap}
use Rattle.record.specs.declared.Gap.TheVariants as gap
use Rattle.record.specs.declared.Record.{Record}
use Rattle.record.specs.declared.Terms.{Terms}
use Rattle.record.proofs.Profile.{some_retries}
use Rattle.record.proofs.Formed.{Phase, formed, quiet_exactly}
use Rattle.gap.specs.Standoff.{standoff_of}
use Rattle.gap.specs.declared.Elapsed.{Elapsed}
use Rattle.gap.specs.declared.Event.{Event}
use Rattle.gap.proofs.Moves.{Next, quiet, stands_on, asks, waits_on, once_more, Move, stands, expires, lost, goes_on, moves}
use Rattle.gap.proofs.Stays.{standoff_most}
use Rattle.wrapper.specs.Judge.{consistent, judged_by, judged, farther, heard}
use Rattle.wrapper.specs.Hold.{next_one, holds, lowest_free, place_for, placed}
use Rattle.wrapper.specs.Release.{next_held, release_from, released}
use Rattle.wrapper.specs.Settle as settle
use Rattle.wrapper.specs.Settle.{begun, gapped, asked, spared, acknowledged, settled}
use Rattle.wrapper.specs.Taken.{taken, stepped}
use Rattle.table.specs.Table.{same, named, differs, table_formed}
use Rattle.table.proofs.Tables as tables
use Rattle.member.specs.Sizes.{table_size, message_sizes, elapsed_sizes}
use Rattle.member.specs.Elapsing.{longest}
use Rattle.demands.specs.Runs.{Came, run, own_of, shown, Each, none, more}
use Rattle.demands.specs.Calls as calls
use Rattle.demands.specs.Calls.{Call, State, table_step, Sound, Lawful}
use Rattle.demands.specs.Channel.{Channel, Told, names, is_cid, own, wrapper_on, one, live, channel_at, view_at, planned, elapsed_on, slab}
use Rattle.demands.specs.Order.{over, ever_over, time_of, time_in, bound}
use Rattle.demands.proofs.Lemmas.Running.{Own, along}
use Rattle.demands.proofs.Lemmas.Kept.{kept_before, terms_kept, gap_kept}
use Rattle.demands.proofs.Lemmas.OneStep.{brought, Does, answers, wraps, passes, leaves, does}
use Rattle.demands.specs.TwoRuns.{Joined}
use Rattle.demands.proofs.Lemmas.OwnLaw.{own_law}
use Rattle.demands.proofs.Lemmas.Sounds.{sound_by}
use Rattle.demands.proofs.Lemmas.Sample as sample

-- ---- how much time a gap has left

-- a round of a gap: a standoff and a wait, and what two calls may pass beyond their ends
abbrev round : Terms → ℕ
round t = t.maxwait + nak_timeout t.expiry + 2000

-- the most that may still pass: what is left of the phase, and the rounds that follow
abbrev left_of : Terms → Gap → ℕ
left_of t gap.Quiet = 0
left_of t (gap.Standoff left count) = left + 2000 + nak_timeout t.expiry + (max_retries - (count + 1)) * round t
left_of t (gap.Waiting left count) = left + 1000 + (max_retries - count) * round t

-- one round less
one_less : (n k c : ℕ) → k < n → (n - k) * c ≡ (n - (k + 1)) * c + c
one_less n k c l = ap (λ m. m * c) (omega arith) ∙ suc-mul (n - (k + 1)) c

-- time that passes is taken from it
next_falls : (r : Record) (ms : ℕ) {g h : Gap} {e : Event} → ms ≤ 1000 → Next r ms g h e → Phase r.reliable.0 r.known.0 r.terms g
    → r.known.0 ≢ r.reliable.0 → left_of r.terms h + ms ≤ left_of r.terms g
next_falls r ms l quiet p o = absurd (o p)
next_falls r ms l (stands_on {left} {count} m) p o = by ((max_retries - (count + 1)) * round r.terms)
  where
    by : (x : ℕ) → left - ms + 2000 + nak_timeout r.terms.expiry + x + ms ≤ left + 2000 + nak_timeout r.terms.expiry + x
    by x = omega arith
next_falls r ms l (asks {left} {count} m) p o = by ((max_retries - (count + 1)) * round r.terms)
  where
    by : (x : ℕ) → nak_timeout r.terms.expiry + 1000 + x + ms ≤ left + 2000 + nak_timeout r.terms.expiry + x
    by x = omega arith
next_falls r ms l (waits_on {left} {count} m) p o = by ((max_retries - count) * round r.terms)
  where
    by : (x : ℕ) → left - ms + 1000 + x + ms ≤ left + 1000 + x
    by x = omega arith
next_falls r ms l (once_more {left} {count} m n) p o =
    by ((max_retries - (count + 1)) * round r.terms) ((max_retries - count) * round r.terms)
    (one_less max_retries count (round r.terms) (omega (arith, p.2, n))) (standoff_most r)
  where
    by : (x y : ℕ) → y ≡ x + round r.terms → standoff_of r ≤ r.terms.maxwait
        → standoff_of r + 2000 + nak_timeout r.terms.expiry + x + ms ≤ left + 1000 + y
    by x y e s = omega arith

move_falls : (r : Record) (ms : ℕ) {o : Elapsed} → ms ≤ 1000 → Move r ms o → Phase r.reliable.0 r.known.0 r.terms r.gap
    → r.known.0 ≢ r.reliable.0 → o.after.used ≡ true → left_of o.after.terms o.after.gap + ms ≤ left_of r.terms r.gap
move_falls r ms l (stands u) p o used = absurd (false≢true (sym u ∙ used))
move_falls r ms l (expires u x) p o used = absurd (false≢true used)
move_falls r ms l (lost u x g m c) p o used = absurd (false≢true used)
move_falls r ms l (goes_on u x m) p o used = next_falls r ms l m p o

-- ---- what an own call takes from it

not_over : (u c : Bool) → not u || c ≡ false → (u ≡ true) × (c ≡ false)
not_over true c e = (refl, e)
not_over false c e = absurd (false≢true (sym e))

in_gap_lem : (h : Channel) → over h ≡ false → (h.at.used ≡ true) × (closed h.at ≡ false)
in_gap_lem h = not_over h.at.used (closed h.at)

-- a phase that runs goes on as it is
running : (r : Record) (time : ℕ) → Phase r.reliable.0 r.known.0 r.terms r.gap → r.known.0 ≢ r.reliable.0 → begun r.gap time ≡ r.gap
running r time = by r.gap
  where
    by : (g : Gap) → Phase r.reliable.0 r.known.0 r.terms g → r.known.0 ≢ r.reliable.0 → begun g time ≡ g
    by gap.Quiet p o = absurd (o p)
    by (gap.Standoff left count) p o = refl
    by (gap.Waiting left count) p o = refl

abbrev left_in : Channel → ℕ
left_in h = left_of h.at.terms h.at.gap

one_falls : (h : Channel) {c : Call} {m : Came Channel Told} → Does h c m → time_of c ≤ 1000 → well_formed h.at ≡ true
    → over h ≡ false → over m.state ≡ false → left_in m.state + time_of c ≤ left_in h
unfolding planned elapsed_on closed
one_falls h (answers t w z) l well before after = rw z (omega arith)
one_falls h (wraps v d w fits fresh) l well before after =
    let goes = not_over _ _ after in
    let was = not_over _ _ before in
    let apart : h.at.known.0 ≢ h.at.reliable.0 = eqb-false _ _ was.1 in
    let phase = (formed h.at well was.0).gap in
    let stays = gap_kept h.at _ goes.0 goes.1 ∙ running h.at _ phase apart in
    rw (terms_kept h.at _, stays) (omega arith)
one_falls h (passes ms) l well before after =
    let was = not_over _ _ before in
    let apart : h.at.known.0 ≢ h.at.reliable.0 = eqb-false _ _ was.1 in
    move_falls h.at ms l (moves h.at ms) (formed h.at well was.0).gap apart (not_over _ _ after).0
one_falls h (leaves reason) l well before after = absurd (false≢true (sym after))

-- ---- how much it has at first

at_first : (t : Terms) (time : ℕ) → time ≤ t.maxwait → left_of t (gap.Standoff time 0) ≤ bound t
unfolding bound
at_first t time l =
    by ((max_retries - (0 + 1)) * round t) (max_retries * round t)
    (ap (λ n. n * round t) (sym (sub-zero max_retries)) ∙ one_less max_retries 0 (round t) some_retries)
  where
    by : (x y : ℕ) → y ≡ x + round t → time + 2000 + nak_timeout t.expiry + x ≤ y
    by x y e = omega arith

move_closed : (r : Record) (ms : ℕ) {o : Elapsed} → Move r ms o → closed o.after ≡ closed r
unfolding closed
move_closed r ms (stands u) = refl
move_closed r ms (expires u x) = refl
move_closed r ms (lost u x g m c) = refl
move_closed r ms (goes_on u x m) = refl

closed_quiet : (r : Record) → well_formed r ≡ true → r.used ≡ true → closed r ≡ true → r.gap ≡ gap.Quiet
unfolding closed
closed_quiet r well used shut = (quiet_exactly (formed r well used)).1 (eqb-true _ _ shut)

-- the call in which a gap begins brings a wrapper, and leaves a whole standoff
begins_with : (h : Channel) {c : Call} {m : Came Channel Told} → Does h c m → well_formed h.at ≡ true → h.at.used ≡ true → closed h.at ≡ true
    → over m.state ≡ false → left_in m.state ≤ bound h.at.terms
unfolding planned elapsed_on
begins_with h (answers t w z) well used shut after = absurd (false≢true (sym (in_gap_lem h after).1 ∙ shut))
begins_with h (wraps v d w fits fresh) well used shut after =
    let goes = in_gap_lem (planned h (brought v d) (contents d) (taken h.at (brought v d))).state after in
    let placing = (released (placed (heard h.at (brought v d).reliable) (brought v d)).after).after in
    let stays = gap_kept h.at (brought v d) goes.0 goes.1 ∙ ap (λ g. begun g (standoff_of placing)) (closed_quiet h.at well used shut) in
    let most = subst (λ t. standoff_of placing ≤ t.maxwait) (kept_before h.at (brought v d)).terms (standoff_most placing) in
    rw (terms_kept h.at (brought v d), stays) (at_first h.at.terms (standoff_of placing) most)
begins_with h (passes ms) well used shut after =
    absurd (false≢true (sym (in_gap_lem (elapsed_on h ms).state after).1 ∙ move_closed h.at ms (moves h.at ms) ∙ shut))
begins_with h (leaves reason) well used shut after = absurd (false≢true (sym after))

-- ---- the run

own_time : (owner : Cid) (channel : ℕ) (c : Call) → own owner channel c ≡ true → time_of c ≤ 1000
unfolding own
own_time owner channel (calls.message held deliver reply sender ours v d n) e = omega arith
own_time owner channel (calls.elapsed cells ms) e = ltb-false _ _ (not-true _ ((and-eq-true_iff (elapsed_sizes table_size cells) (not (ltb longest ms))).0 e).1)
own_time owner channel (calls.leave reply sender named reason) e = omega arith

well_at : {i : ℕ} {owner : Cid} {channel : ℕ} {s : State} → Joined i owner channel s → well_formed (channel_at i s).at ≡ true
unfolding channel_at
well_at {i} {owner} {channel} {s} j = (tables.formed s.table j.right.formed).each i

-- the call that begins a gap is one of the channel's own
begun_with : (i : ℕ) (owner : Cid) (channel : ℕ) (s : State) (c : Call) → Lawful c → Joined i owner channel s → closed (channel_at i s).at ≡ true
    → over (channel_at i (table_step s c).state) ≡ false → left_in (channel_at i (table_step s c).state) ≤ bound (channel_at i s).at.terms
begun_with i owner channel s c lawful joined shut begins = by (own owner channel c) refl
  where
    law : Own table_step (one owner) (own owner channel) (channel_at i) (view_at i) live (Joined i owner channel) Lawful
    law = own_law i owner channel

    by : (b : Bool) → own owner channel c ≡ b → left_in (channel_at i (table_step s c).state) ≤ bound (channel_at i s).at.terms
    by true e =
        let reached = sym (law.views (table_step s c)) ∙ ap (λ m. m.state) (law.mine s c joined lawful e) in
        subst (λ h. over h ≡ false → left_in h ≤ bound (channel_at i s).at.terms) (sym reached)
        (begins_with (channel_at i s) (does (channel_at i s) owner c) (well_at joined) (law.lives s joined) shut) begins
    by false e =
        absurd (false≢true (sym (in_gap_lem (channel_at i (table_step s c).state) begins).1 ∙ ap (λ h. closed h.at) (law.others s c joined lawful e) ∙ shut))

pub gap_ends : (i : ℕ) (owner : Cid) (channel : ℕ) (s : State) (c : Call) (cs : List Call) → Lawful c → Each Lawful cs → Joined i owner channel s
    → closed (channel_at i s).at ≡ true
    → over (channel_at i (table_step s c).state) ≡ false
    → bound (channel_at i s).at.terms < time_in (own_of (own owner channel) cs)
    → ever_over (shown (own owner channel) (view_at i) live (run table_step (table_step s c).state cs)) ≡ true
unfolding ever_over time_in
gap_ends i owner channel s c cs lawful each joined shut begins past =
    along law
    (λ h ocs ms. over h ≡ false → left_in h < time_in ocs → ever_over ms ≡ true)
    (λ h o l. absurd (omega arith))
    goes
    (λ r d ds j w e dead o l. rw dead)
    (table_step s c).state cs each (law.stays s c joined lawful (in_gap_lem (channel_at i (table_step s c).state) begins).0) begins
    (omega (arith, begun_with i owner channel s c lawful joined shut begins, past))
  where
    law : Own table_step (one owner) (own owner channel) (channel_at i) (view_at i) live (Joined i owner channel) Lawful
    law = own_law i owner channel

    goes : (r : State) (d : Call) (ds : List Call) (ms : List (Came Channel Told)) → Joined i owner channel r → Lawful d → own owner channel d ≡ true
        → live (one owner (channel_at i r) d).state ≡ true
        → (over (one owner (channel_at i r) d).state ≡ false → left_in (one owner (channel_at i r) d).state < time_in ds → ever_over ms ≡ true)
        → over (channel_at i r) ≡ false → left_in (channel_at i r) < time_in (d ∷ ds) → ever_over (one owner (channel_at i r) d ∷ ms) ≡ true
    goes r d ds ms j w e alive next o l = on (over (one owner (channel_at i r) d).state) refl
      where
        on : (b : Bool) → over (one owner (channel_at i r) d).state ≡ b → b || ever_over ms ≡ true
        on true q = refl
        on false q =
            next q (omega (arith, one_falls (channel_at i r) (does (channel_at i r) owner d) (own_time owner channel d e) (well_at j) o q, l))

-- ---- an example: a quiet channel of the second owner in record 5 is at 10, and 12 comes before 11

abbrev quietly : Record
quietly =
    record {
      used = true;
      terms = (sample.holding sample.second).terms;
      total = total 10;
      reliable = reliable 10;
      known = reliable 10;
      acked = reliable 10;
      idle = 0;
      gap = gap.Quiet;
      places = replicate 4 no_place;
    }

abbrev before : State
before = sample.state_of quietly 0

sound_quietly : Sound quietly
sound_quietly = sound_by refl (lit< tt, lit< tt) (lit< tt) (lit< tt) (sample.fresh_below 4)

joined_quietly : Joined 5 sample.second 7 before
unfolding table_formed
    differs named same well_formed terms_right legal_names legal_parameters min_expiry distance held_all_right held_right held_apart apart_from apart gap_right closed max_retries
joined_quietly = record { right = (sample.joined_in quietly 0 sound_quietly refl).right; has = refl }

abbrev comes : Call
comes = sample.wrapper_call (sample.cid 3 4) 12 (4 ∷ 5 ∷ 6 ∷ [])

lawful_comes : Lawful comes
lawful_comes = sample.lawful (sample.wrapper_data 12 (4 ∷ 5 ∷ 6 ∷ [])) refl

own_comes : own sample.second 7 comes ≡ true
unfolding own is_cid cid_at number same names readable length_of look wrapper_of
own_comes = refl

-- the wrapper is held and the gap begins
gap_begun : (held : List ℕ) → over (one sample.second (record { at = quietly; held = held }) comes).state ≡ false
unfolding one message_sizes wrapper_on wrapper_of number stepped judged judged_by consistent distance
    taken heard farther placed next_one place_for holds lowest_free released release_from next_held settled gapped settle.lost closed acknowledged asked spared planned
gap_begun held = refl

gap_follows : over (channel_at 5 (table_step before comes).state) ≡ false
unfolding channel_at view_at
gap_follows =
    ap (λ (m : Came Channel Told). over m.state) ((own_law 5 sample.second 7).mine before comes joined_quietly lawful_comes own_comes)
    ∙ gap_begun (slab 5 (sample.held_of 0))

-- in a hundred times a second the channel is without a gap or left; the profile's numbers ask for fewer
abbrev seconds : List Call
seconds = replicate 100 (calls.elapsed 512 1000)

lawful_seconds : Each Lawful seconds
lawful_seconds = by 100
  where
    by : (n : ℕ) → Each Lawful (replicate n (calls.elapsed 512 1000))
    by zero = none
    by (suc n) = more tt (by n)

time_enough : bound quietly.terms < time_in (own_of (own sample.second 7) seconds)
unfolding bound nak_timeout nak_timeout_factor max_retries time_in own_of own elapsed_sizes
time_enough = lit< tt

it_ends : ever_over (shown (own sample.second 7) (view_at 5) live (run table_step (table_step before comes).state seconds)) ≡ true
unfolding channel_at closed
it_ends = gap_ends 5 sample.second 7 before comes seconds lawful_comes lawful_seconds joined_quietly refl gap_follows time_enough
