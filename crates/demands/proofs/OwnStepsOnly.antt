-- Demand 3 of the order. A call that is not a channel's own leaves its record and its held octets (`others_leave`). So what a run of arbitrary calls shows of the
-- channel is what the channel does by itself with its own calls (`own_run`), and two runs that agree in its own calls show the same of it, however all other
-- calls differ (`own_steps_only`). Both go up to the call that leaves the channel, and include it. They assume that the channel is joined in a well-formed
-- table of the machine's numbers (`Joined`) and that the data of messages are octets (`Lawful`); the example at the end meets that.
use Prim.{tt}
use Prim.Native.Nat.{ℕ, zero, suc, ◌<◌, ◌≤◌}
use mathlib.Core.Bool.{Bool, true, false, cond, and-eq-true_iff}
use mathlib.Core.List.{List, [], ◌∷◌, map}
use mathlib.Core.Logic.{◌⊎◌, inl, inr}
use mathlib.Core.Path.{◌≡◌, refl, sym, ap, subst, ◌∙◌}
use native.Mathlib.Omega.{arith}
use lib.Dec.{eqb, lit<, lit≤}
use lib.ListN.{length, get_or, replicate, length-replicate}
use Rattle.octets.specs.Octets.{number, part, Octets}
use Rattle.octets.proofs.Writes.{part_splice}
use Rattle.counter.specs.Distance.{distance}
use Rattle.message.specs.Layouts.{cid_at, wrapper_of, join_of}
use Rattle.message.specs.Lengths.{join, look, length_of}
use Rattle.message.specs.Reading.{readable}
use Rattle.message.specs.declared.Cid.{Cid}
use Rattle.record.specs.Legal.{legal_names, legal_parameters}
use Rattle.record.specs.Profile.{min_expiry, max_retries}
use Rattle.record.specs.WellFormed.{most_contents, held_right, apart, apart_from, held_apart, held_all_right, closed, gap_right, terms_right, well_formed}
use Rattle.record.specs.declared.Gap.TheVariants as gap
use Rattle.record.specs.With.{with_gap, with_idle}
use Rattle.record.specs.declared.Record.{Record}
use Rattle.record.proofs.Formed.{formed}
use Rattle.gap.specs.Elapsed.{in_standoff, phased, elapsed_of}
use Rattle.gap.specs.declared.Event.TheVariants as event
use Rattle.record.specs.Places.{no_place}
use Rattle.table.specs.Table.{same, named, differs, table_formed, record_at}
use Rattle.carry.specs.Carried.{place_begins}
use Rattle.record.proofs.Stored.{used_below}
use Rattle.carry.proofs.HeldAgree.{Agree}
use Rattle.sending.specs.Sent.{event_of}
use Rattle.member.specs.Sizes.{held_size, elapsed_sizes}
use Rattle.demands.specs.Runs.{Came, run, own_of, alone, shown, Each, none, more}
use Rattle.demands.specs.Calls as calls
use Rattle.demands.specs.Calls.{Call, State, table_step, Lawful}
use Rattle.demands.specs.Channel.{Channel, Told, passed, is_cid, names, own, elapsed_on, one, live, channel_at, view_at, slab}
use Rattle.demands.specs.TwoRuns.{Joined, contents_at, held_contents, SameChannel, counted, Seen, seen_of}
use Rattle.demands.proofs.Lemmas.Running.{own_each, shown_alone, Likeness, alike_alone}
use Rattle.demands.proofs.Lemmas.Slabs.{slab_place}
use Rattle.demands.specs.Refusals.{is_wrapper}
use Rattle.demands.proofs.Lemmas.Owned.{names_is, it_has}
use Rattle.demands.proofs.Lemmas.Sample as sample
use Rattle.demands.proofs.Lemmas.Sample.{holding, first, second, free, state_of, held_of, sound_holding, joined_in, joined_one}
use Rattle.demands.proofs.Lemmas.OwnLaw.{stays_joined, own_law}
use Rattle.demands.proofs.Lemmas.OneCall.{call_own, call_other}
use Rattle.demands.proofs.Lemmas.Agreeing.{Tells, one_tells}

-- ---- one run

-- any other call leaves the channel: its record, and every octet of its places
pub others_leave : (i : ℕ) (owner : Cid) (channel : ℕ) (s : State) (c : Call) → Joined i owner channel s → own owner channel c ≡ false
    → channel_at i (table_step s c).state ≡ channel_at i s
others_leave i owner channel s c joined other = call_other i owner channel s joined.right joined.has c other

-- the one-run equation
pub own_run : (i : ℕ) (owner : Cid) (channel : ℕ) (s : State) (cs : List Call) → Each Lawful cs → Joined i owner channel s
    → shown (own owner channel) (view_at i) live (run table_step s cs) ≡ alone (one owner) live (channel_at i s) (own_of (own owner channel) cs)
own_run i owner channel s cs each joined = shown_alone (own_law i owner channel) s cs each joined

-- ---- two runs

-- the contents of one place, from those of all
contents_at_lem : (h k : Channel) → held_contents h ≡ held_contents k → (j : ℕ) → j < 4 → contents_at h j ≡ contents_at k j
unfolding held_contents
contents_at_lem h k e zero l = ap (λ (cs : List (List ℕ)). get_or cs 0 []) e
contents_at_lem h k e (suc zero) l = ap (λ (cs : List (List ℕ)). get_or cs 1 []) e
contents_at_lem h k e (suc (suc zero)) l = ap (λ (cs : List (List ℕ)). get_or cs 2 []) e
contents_at_lem h k e (suc (suc (suc zero))) l = ap (λ (cs : List (List ℕ)). get_or cs 3 []) e
contents_at_lem h k e (suc (suc (suc (suc j)))) l = absurd (omega arith)

contents_used : (h : Channel) (j : ℕ) → (get_or h.at.places j no_place).used ≡ true
    → contents_at h j ≡ part h.held (place_begins 0 j) (get_or h.at.places j no_place).len
contents_used h j u = ap (λ (b : Bool). cond b (part h.held (place_begins 0 j) (get_or h.at.places j no_place).len) []) u

-- the channel of two states that are the same for it
record Alike (i : ℕ) (owner : Cid) (channel : ℕ) (h k : Channel) : Type 0 where
  s : State
  t : State
  joined_s : Joined i owner channel s
  joined_t : Joined i owner channel t
  same : SameChannel i s t
  is_h : h ≡ channel_at i s
  is_k : k ≡ channel_at i t

module _ (i : ℕ) (owner : Cid) (channel : ℕ) where
  -- a used place of a joined record is one of four, and its contents fit
  held_fits : (s : State) → Joined i owner channel s → (j : ℕ) → (get_or (record_at s.table i).places j no_place).used ≡ true
      → (j < 4) × ((get_or (record_at s.table i).places j no_place).len ≤ most_contents)
  held_fits s joined j u =
      let has = it_has i owner channel s joined.right joined.has in (
        omega (arith, used_below (record_at s.table i).places j u, has.four),
        ((formed (record_at s.table i) (has.formed.each i) has.used).held j u).contents,
      )

  -- the same contents are octets that agree in the used places
  octets_agree : (s t : State) → Joined i owner channel s → SameChannel i s t → Agree i (record_at s.table i).places s.held t.held
  unfolding channel_at
  octets_agree s t joined same j u =
      let fits = held_fits s joined j u in
      sym (slab_place i j _ s.held fits.0 fits.1)
      ∙ sym (contents_used (channel_at i s) j u)
      ∙ contents_at_lem (channel_at i s) (channel_at i t) same.held j fits.0
      ∙ ap (λ (r : Record). contents_at (record { at = r; held = slab i t.held }) j) (sym same.at)
      ∙ contents_used (record { at = record_at s.table i; held = slab i t.held }) j u
      ∙ slab_place i j _ t.held fits.0 fits.1

  module _ (s t : State) (c : Call) (joined_s : Joined i owner channel s) (joined_t : Joined i owner channel t) (same : SameChannel i s t) where
    tells : Tells (one owner (channel_at i s) c) (one owner (channel_at i t) c)
    unfolding channel_at
    tells =
        let has = it_has i owner channel s joined_s.right joined_s.has in
        subst (λ (r : Record). Tells (one owner (channel_at i s) c) (one owner (record { at = r; held = slab i t.held }) c)) same.at
        (one_tells i has.below (record_at s.table i) has.used (has.formed.each i) has.four s.held t.held
        joined_s.right.size joined_t.right.size (octets_agree s t joined_s same) owner c)

    tells_seen : seen_of (one owner (channel_at i s) c) ≡ seen_of (one owner (channel_at i t) c)
    tells_seen = λ j. record { at = tells.at j; contents = tells.contents j; told = tells.told j }

    module _ (lawful : Lawful c) (e : own owner channel c ≡ true) (lives : live (one owner (channel_at i s) c).state ≡ true) where
      -- where the call leads is what the channel comes to
      leads : (u : State) → Joined i owner channel u → channel_at i (table_step u c).state ≡ (one owner (channel_at i u) c).state
      unfolding view_at
      leads u joined = ap (λ (m : Came Channel Told). m.state) (call_own i owner channel u joined.right joined.has c e)

      joined_after : Joined i owner channel (table_step s c).state
      joined_after = stays_joined i owner channel s c joined_s lawful (ap live (leads s joined_s) ∙ lives)

      joined_too : Joined i owner channel (table_step t c).state
      joined_too =
          stays_joined i owner channel t c joined_t lawful
          (ap live (leads t joined_t) ∙ sym (ap (λ (r : Record). r.used) tells.at) ∙ lives)

      same_after : SameChannel i (table_step s c).state (table_step t c).state
      unfolding channel_at
      same_after =
          record {
            at =
                ap (λ (h : Channel). h.at) (leads s joined_s)
                ∙ tells.at
                ∙ sym (ap (λ (h : Channel). h.at) (leads t joined_t));
            held = ap held_contents (leads s joined_s) ∙ tells.contents ∙ sym (ap held_contents (leads t joined_t));
          }

  -- channels that are the same tell the same and stay so
  likeness : Likeness (one owner) live seen_of (Alike i owner channel) (λ c. Lawful c × (own owner channel c ≡ true))
  likeness = record { tell = tell; end = λ h k c w a. ap (λ (m : Seen). m.at.used) (tell h k c w a); stay = stay }
    where
      tell : (h k : Channel) (c : Call) → Lawful c × (own owner channel c ≡ true) → Alike i owner channel h k
          → seen_of (one owner h c) ≡ seen_of (one owner k c)
      tell h k c w a =
          ap (λ (x : Channel). seen_of (one owner x c)) a.is_h
          ∙ tells_seen a.s a.t c a.joined_s a.joined_t a.same
          ∙ sym (ap (λ (x : Channel). seen_of (one owner x c)) a.is_k)

      stay : (h k : Channel) (c : Call) → Lawful c × (own owner channel c ≡ true) → Alike i owner channel h k
          → live (one owner h c).state ≡ true → Alike i owner channel (one owner h c).state (one owner k c).state
      stay h k c w a l =
          let lives : live (one owner (channel_at i a.s) c).state ≡ true = sym (ap (λ (x : Channel). live (one owner x c).state) a.is_h) ∙ l in
          record {
            s = (table_step a.s c).state;
            t = (table_step a.t c).state;
            joined_s = joined_after a.s a.t c a.joined_s a.joined_t a.same w.0 w.1 lives;
            joined_t = joined_too a.s a.t c a.joined_s a.joined_t a.same w.0 w.1 lives;
            same = same_after a.s a.t c a.joined_s a.joined_t a.same w.0 w.1 lives;
            is_h =
                ap (λ (x : Channel). (one owner x c).state) a.is_h
                ∙ sym (leads a.s a.t c a.joined_s a.joined_t a.same w.0 w.1 lives a.s a.joined_s);
            is_k =
                ap (λ (x : Channel). (one owner x c).state) a.is_k
                ∙ sym (leads a.s a.t c a.joined_s a.joined_t a.same w.0 w.1 lives a.t a.joined_t);
          }

-- ---- what counts of the own calls

-- the reciprocal number plays no part in an own call that is no Join
one_counted : (owner : Cid) (channel : ℕ) (h : Channel) (c : Call) → own owner channel c ≡ true → one owner h (counted c) ≡ one owner h c
unfolding one own
one_counted owner channel h (calls.message held deliver reply sender ours v d n) e =
    by (names_is channel v d ((and-eq-true_iff (is_cid owner sender) (names channel v d)).0 e).1).1
  where
    by : ((is_wrapper v ≡ true) × ((wrapper_of d).channel ≡ channel)) ⊎ ((eqb v join ≡ true) × ((join_of d).channel ≡ channel))
        → one owner h (counted (calls.message held deliver reply sender ours v d n)) ≡ one owner h (calls.message held deliver reply sender ours v d n)
    by (inl w) = rw w.0
    by (inr j) = rw j.0
one_counted owner channel h (calls.elapsed cells ms) e = refl
one_counted owner channel h (calls.leave reply sender named reason) e = refl

alone_counted : (owner : Cid) (channel : ℕ) (h : Channel) (cs : List Call) → Each (λ c. Lawful c × (own owner channel c ≡ true)) cs
    → alone (one owner) live h (map counted cs) ≡ alone (one owner) live h cs
unfolding alone
alone_counted owner channel h [] each = refl
alone_counted owner channel h (c ∷ cs) (more w each) =
    rw (one_counted owner channel h c w.1, alone_counted owner channel (one owner h c).state cs each)

pub own_steps_only : (i : ℕ) (owner : Cid) (channel : ℕ) (s t : State) (cs ds : List Call) → Each Lawful cs → Each Lawful ds
    → Joined i owner channel s → Joined i owner channel t → SameChannel i s t
    → map counted (own_of (own owner channel) cs) ≡ map counted (own_of (own owner channel) ds)
    → map seen_of (shown (own owner channel) (view_at i) live (run table_step s cs))
    ≡ map seen_of (shown (own owner channel) (view_at i) live (run table_step t ds))
own_steps_only i owner channel s t cs ds each-s each-t joined_s joined_t same agree =
    let own-s = own_each (own owner channel) cs each-s in
    let own-t = own_each (own owner channel) ds each-t in
    ap (map seen_of) (own_run i owner channel s cs each-s joined_s)
    ∙ alike_alone (likeness i owner channel) (channel_at i s) (channel_at i t) (own_of (own owner channel) cs) own-s
    (record { s = s; t = t; joined_s = joined_s; joined_t = joined_t; same = same; is_h = refl; is_k = refl })
    ∙ ap (map seen_of)
    (sym (alone_counted owner channel (channel_at i t) (own_of (own owner channel) cs) own-s)
    ∙ ap (alone (one owner) live (channel_at i t)) agree
    ∙ alone_counted owner channel (channel_at i t) (own_of (own owner channel) ds) own-t)
    ∙ sym (ap (map seen_of) (own_run i owner channel t ds each-t joined_t))

-- ---- an example: a channel in record 2 holds a wrapper; in a second table stands another channel, and all other held octets differ

joined_two : Joined 2 first 7 (state_of (holding second) 255)
unfolding table_formed
    differs named same well_formed terms_right legal_names legal_parameters min_expiry distance held_all_right held_right held_apart apart_from apart gap_right closed max_retries
joined_two = joined_in (holding second) 255 (sound_holding second) refl

written_at : (x : ℕ) → place_begins 2 0 ≤ length (replicate held_size x)
unfolding place_begins
written_at x =
    let l : length (replicate held_size x) ≡ held_size = length-replicate held_size x in
    omega arith

written : (x : ℕ) → part (held_of x) (place_begins 2 0) 3 ≡ 1 ∷ 2 ∷ 3 ∷ []
unfolding held_of
written x = part_splice (replicate held_size x) (place_begins 2 0) (1 ∷ 2 ∷ 3 ∷ []) (written_at x)

in_slab : (x : ℕ) → part (slab 2 (held_of x)) (place_begins 0 0) 3 ≡ 1 ∷ 2 ∷ 3 ∷ []
in_slab x = slab_place 2 0 3 (held_of x) (lit< tt) (lit≤ tt) ∙ written x

same_two : SameChannel 2 (state_of free 0) (state_of (holding second) 255)
unfolding channel_at held_contents
same_two = record { at = refl; held = ap (λ (c : List ℕ). c ∷ [] ∷ [] ∷ [] ∷ []) (in_slab 0 ∙ sym (in_slab 255)) }

-- in one run a stranger tries to leave the channel and a call is lent nothing; in the other there are no such calls, and the caller names another reciprocal
-- number with the wrapper
abbrev strange : List Call
strange =
    calls.leave 64 (replicate 16 0) 7 1
    ∷ calls.elapsed 512 20
    ∷ calls.message 0 0 0 [] [] 0 [] 0
    ∷ sample.wrapper_with 9 (sample.cid 1 2) 11 (4 ∷ 5 ∷ 6 ∷ [])
    ∷ []

abbrev plain : List Call
plain = calls.elapsed 512 20 ∷ sample.wrapper_with 0 (sample.cid 1 2) 11 (4 ∷ 5 ∷ 6 ∷ []) ∷ []

lawful_strange : Each Lawful strange
unfolding Octets
lawful_strange = more tt (more tt (more empty (more (sample.lawful (sample.wrapper_data 11 (4 ∷ 5 ∷ 6 ∷ [])) refl) none)))
  where
    empty : Octets []
    empty i = lit< tt

lawful_plain : Each Lawful plain
lawful_plain = more tt (more (sample.lawful (sample.wrapper_data 11 (4 ∷ 5 ∷ 6 ∷ [])) refl) none)

-- what counts of the channel's own calls is the same in both
own_same : map counted (own_of (own first 7) strange) ≡ map counted (own_of (own first 7) plain)
unfolding own_of own is_cid cid_at number same elapsed_sizes names readable length_of look wrapper_of
own_same = refl

-- so both show the same of it
shows_same : map seen_of (shown (own first 7) (view_at 2) live (run table_step (state_of free 0) strange))
    ≡ map seen_of (shown (own first 7) (view_at 2) live (run table_step (state_of (holding second) 255) plain))
shows_same =
    own_steps_only 2 first 7 (state_of free 0) (state_of (holding second) 255) strange plain lawful_strange lawful_plain
    joined_one joined_two same_two own_same

-- after the time alone that is the standoff with 20 milliseconds spent, and the wrapper held as it was
abbrev time : List Call
time = calls.elapsed 512 20 ∷ []

spends : (held : List ℕ)
    → map seen_of (alone (one first) live (record { at = holding first; held = held }) time)
    ≡ record {
      at = with_gap (with_idle (holding first) 20) (gap.Standoff 30 0);
      contents = part held (place_begins 0 0) 3 ∷ [] ∷ [] ∷ [] ∷ [];
      told = passed event.Nothing [];
    }
    ∷ []
unfolding alone one elapsed_on elapsed_of phased in_standoff event_of held_contents
spends held = refl

shows_standoff : map seen_of (shown (own first 7) (view_at 2) live (run table_step (state_of free 0) time))
    ≡ record {
      at = with_gap (with_idle (holding first) 20) (gap.Standoff 30 0);
      contents = (1 ∷ 2 ∷ 3 ∷ []) ∷ [] ∷ [] ∷ [] ∷ [];
      told = passed event.Nothing [];
    }
    ∷ []
unfolding channel_at own_of own elapsed_sizes
shows_standoff =
    ap (map seen_of) (own_run 2 first 7 (state_of free 0) time (more tt none) joined_one)
    ∙ spends (slab 2 (held_of 0))
    ∙ ap
    (λ (c : List ℕ).
    record {
      at = with_gap (with_idle (holding first) 20) (gap.Standoff 30 0);
      contents = c ∷ [] ∷ [] ∷ [] ∷ [];
      told = passed event.Nothing [];
    }
    ∷ [])
    (in_slab 0)
