-- Over a whole run of a channel, up to and including the call that leaves it, deliveries come in turn (`run_in_turn`): the reliable wrappers delivered
-- carry exactly the reliable numbers that follow R, one after the other (`reliable_in_order`), and so from the Join on those that follow the Join's
-- (`joined_in_turn`, `joined_in_order`). All assume that the table is right at the start and that the data of messages are octets, and the
-- first two that the channel is joined (`Right`, `Joined`, `Lawful`); the examples at the end meet that: one delivers two wrappers, one begins with a Join.
--
-- What follows: among the reliable ones none is delivered twice before the counter has made a full turn of 2^32 reliable deliveries (`delivered_once`),
-- none is skipped, and none comes out of turn; an unreliable one is delivered only between the reliable ones that its number says, and with a total ahead of the last.
-- What does not follow: a total may be met again after two steps of almost half a turn and a short third one, since a total is only compared with
-- the one before it.
use Prim.Native.Nat.{ℕ, zero, suc, ◌+◌, ◌%◌, ◌<◌, ◌≤◌}
use mathlib.Core.Bool.{Bool, true, false, cond}
use mathlib.Core.List.{List, [], ◌∷◌, ◌++◌, map}
use mathlib.Core.Logic.{◌⊎◌, inl, inr, ◌≢◌}
use mathlib.Core.Path.{◌≡◌, refl, sym, ap, ap₂, subst, ◌∙◌}
use native.Mathlib.Omega.{arith}
use lib.Dec.{lit≤, lit<}
use lib.IntN.{pos}
use lib.ListN.{length, get_or, take, set, replicate}
use Rattle.std.specs.Prelude.{Option, Some, None, Ok}
use Rattle.octets.specs.Octets.{number}
use Rattle.counter.specs.Distance.{turn, ahead, distance}
use Rattle.counter.specs.Steps.{next}
use Rattle.counter.proofs.Distances.{ahead_turn, ahead_is, distance_zero}
use Rattle.counter.specs.declared.Total.{Total}
use Rattle.counter.specs.declared.Reliable.{Reliable}
use Rattle.message.specs.Lengths.{look, length_of}
use Rattle.message.specs.Layouts.{total, reliable, cid_at, wrapper_of, parameters_at, address_of, join_of}
use Rattle.message.specs.Reading.{readable_join, readable, message_of, read_message, contents}
use Rattle.message.specs.declared.Cid.{Cid}
use Rattle.message.specs.declared.Join.{Join}
use Rattle.message.specs.declared.Parameters.{Parameters}
use Rattle.record.specs.Legal.{legal_names, legal_parameters}
use Rattle.record.specs.Profile.{min_expiry}
use Rattle.record.specs.declared.Place.{Place}
use Rattle.record.specs.declared.Record.{Record}
use Rattle.gap.specs.Elapsed.{elapsed_of}
use Rattle.gap.specs.declared.Elapsed.{Elapsed}
use Rattle.gap.proofs.Moves.{Move, stands, expires, lost, goes_on, moves}
use Rattle.wrapper.specs.Judge.{heard}
use Rattle.wrapper.specs.Hold.{placed}
use Rattle.record.specs.Places.{no_place}
use Rattle.wrapper.specs.Taken.{taken}
use Rattle.wrapper.specs.declared.Arrived.{Arrived}
use Rattle.wrapper.specs.declared.Fate.{Fate}
use Rattle.wrapper.specs.declared.Fate.TheVariants as fate
use Rattle.wrapper.specs.InTurn as turns
use Rattle.wrapper.proofs.InTurn.{in_turn}
use Rattle.wrapper.specs.Since.{Freed}
use Rattle.joining.specs.Joining.{legal_block, legal, decide_new, decided, new_record}
use Rattle.joining.specs.declared.Decision.{Decision}
use Rattle.joining.specs.declared.Decision.TheVariants as decision
use Rattle.table.specs.Table.{same, named, found, lowest_free, record_at}
use Rattle.table.proofs.Finding.{found_at_lem, free_at}
use Rattle.table.proofs.Tables as tables
use Rattle.carry.specs.Carried.{Delivered, held_after, at_once, from_place, from_places, delivered_by}
use Rattle.carry.proofs.PlanFits.{taking}
use Rattle.asking.specs.Asking.{join_asks, asked_of}
use Rattle.member.specs.Sizes.{table_size, held_size, deliver_size, reply_size, message_sizes}
use Rattle.member.specs.Messages.{Outcome, join_done, join_outcome, plan_outcome, message_outcome}
use Rattle.member.specs.declared.Given.TheVariants as given
use Rattle.demands.specs.Runs.{Came, run, own_of, shown, Each, none, more}
use Rattle.demands.specs.Calls as calls
use Rattle.demands.specs.Calls.{Call, State, table_step, Sound, Lawful, Right}
use Rattle.demands.specs.Channel.{Channel, Told, own, one, live, channel_at, view_at, planned, elapsed_on, names, is_cid}
use Rattle.demands.specs.Order.{delivered_in, delivered_all, InTurn, reliable_numbers, following, BroughtBy, here, later, From, received, kept, Makes, makes}
use Rattle.demands.proofs.Lemmas.Running.{own_each, along}
use Rattle.demands.proofs.Lemmas.Outcomes.{message_cases}
use Rattle.demands.proofs.Lemmas.OneStep.{refuses, joins, brought, Does, answers, wraps, passes, leaves, does}
use Rattle.record.proofs.Choices.{never}
use Rattle.demands.proofs.Lemmas.OneMessage.{lent_length}
use Rattle.demands.proofs.Lemmas.Brought.{wrapper_says}
use Rattle.demands.proofs.TableStays.{table_stays}
use Rattle.demands.specs.TwoRuns.{Joined}
use Rattle.demands.proofs.Lemmas.OwnLaw.{own_law}
use Rattle.demands.proofs.Lemmas.Sample as sample
use Rattle.demands.proofs.Lemmas.Lists.{each_to}
use Rattle.demands.proofs.NothingInvented.{nothing_invented, comes, lawful_comes, delivers_both}

-- ---- one step

-- what is delivered, without its length and contents
abbrev numbers_of : Delivered → turns.Delivery
numbers_of x = record { reliably = x.delivery.reliably; total = x.delivery.total; reliable = x.delivery.reliable }

-- deliveries that go on in turn from where others end
join_turns : (t : Total) (n : Reliable) (xs ys : List Delivered) (u : Total) (m : Reliable) → turns.InTurnTo t n (map numbers_of xs) u m → InTurn u m ys
    → InTurn t n (xs ++ ys)
unfolding InTurn
join_turns t n [] ys u m e rest = rw (e.0, e.1) rest
join_turns t n (x ∷ xs) ys u m e rest = (e.0, e.1, join_turns x.delivery.total x.delivery.reliable xs ys u m e.2 rest)

map_append : {A B : Type 0} (f : A → B) (xs ys : List A) → map f (xs ++ ys) ≡ map f xs ++ map f ys
map_append f [] ys = refl
map_append f (x ∷ xs) ys = ap (λ zs. f x ∷ zs) (map_append f xs ys)

map_both : {A B C : Type 0} (f : B → C) (g : A → B) (h : A → C) → ((a : A) → f (g a) ≡ h a) → (xs : List A) → map f (map g xs) ≡ map h xs
map_both f g h e [] = refl
map_both f g h e (x ∷ xs) = ap₂ ◌∷◌ (e x) (map_both f g h e xs)

itself_numbers : (f : Fate) (w : Arrived) (c : List ℕ) → map numbers_of (at_once f w c) ≡ turns.itself f w
itself_numbers fate.Delivered w c = refl
itself_numbers (fate.Held j) w c = refl
itself_numbers fate.Dropped w c = refl

-- a place that was freed still says the numbers that it held
place_numbers : (held : List ℕ) (ps qs : List Place) (j : ℕ) → (get_or qs j no_place ≡ get_or ps j no_place) ⊎ Freed (get_or ps j no_place) (get_or qs j no_place)
    → numbers_of (from_place held 0 j (get_or qs j no_place)) ≡ turns.held_in ps j
place_numbers held ps qs j (inl e) = rw e
place_numbers held ps qs j (inr e) = rw e.1

step_numbers : (r : Record) (w : Arrived) (held c : List ℕ) → length r.places ≡ 4
    → map numbers_of (delivered_by held 0 w c (taken r w)) ≡ turns.deliveries r w
unfolding delivered_by
step_numbers r w held c four =
    let before = (placed (heard r w.reliable) w).after.places in
    let after = (taken r w).after.places in
    let octets = held_after 0 (taken r w).fate c held in
    let order = take (taken r w).count (taken r w).order in
    map_append numbers_of (at_once (taken r w).fate w c) (from_places octets 0 after order)
    ∙ ap₂ ◌++◌ (itself_numbers (taken r w).fate w c)
    (map_both numbers_of (λ j. from_place octets 0 j (get_or after j no_place)) (turns.held_in before)
    (λ j. place_numbers octets before after j ((taking r w four).each j)) order)

move_numbers : (r : Record) (ms : ℕ) {o : Elapsed} → Move r ms o → (o.after.total ≡ r.total) × (o.after.reliable ≡ r.reliable)
move_numbers r ms (stands u) = (refl, refl)
move_numbers r ms (expires u x) = (refl, refl)
move_numbers r ms (lost u x g l c) = (refl, refl)
move_numbers r ms (goes_on u x m) = (refl, refl)

-- what an own call delivers comes in turn, and so does what goes on from there
step_in_turn : (h : Channel) {c : Call} {m : Came Channel Told} → Does h c m → length h.at.places ≡ 4 → (xs : List Delivered)
    → InTurn m.state.at.total m.state.at.reliable xs → InTurn h.at.total h.at.reliable (delivered_in m.answer ++ xs)
unfolding planned elapsed_on
step_in_turn h (answers t (refuses n) z) four xs rest = rest
step_in_turn h (answers t (joins d reply) z) four xs rest = rest
step_in_turn h (wraps v d w fits fresh) four xs rest =
    let after = (taken h.at (brought v d)).after in
    join_turns h.at.total h.at.reliable (delivered_by h.held 0 (brought v d) (contents d) (taken h.at (brought v d))) xs after.total after.reliable
    (subst (λ ds. turns.InTurnTo h.at.total h.at.reliable ds after.total after.reliable)
    (sym (step_numbers h.at (brought v d) h.held (contents d) four)) (in_turn h.at (brought v d) four fresh))
    rest
step_in_turn h (passes ms) four xs rest =
    let stand = move_numbers h.at ms (moves h.at ms) in
    subst (λ n. InTurn h.at.total n xs) stand.1 (subst (λ t. InTurn t (elapsed_of h.at ms).after.reliable xs) stand.0 rest)
step_in_turn h (leaves reason) four xs rest = rest

-- ---- the run

-- a record that has an owner and channel is one of the eight
has_place : {i : ℕ} {owner : Cid} {channel : ℕ} {s : State} → Joined i owner channel s → i < table_size
has_place {i} {owner} {channel} {s} j =
    let formed = tables.formed s.table j.right.formed in
    let within = (found_at_lem owner channel s.table i (tables.found_formed formed owner channel i j.has)).0 in
    rw j.right.eight at within

nothing : (h : Channel) → InTurn h.at.total h.at.reliable []
unfolding InTurn
nothing h = tt

four_places : {i : ℕ} {owner : Cid} {channel : ℕ} {s : State} → Joined i owner channel s → length (channel_at i s).at.places ≡ 4
unfolding channel_at
four_places {i} {owner} {channel} {s} j = (j.right.sound i (has_place j)).four

pub run_in_turn : (i : ℕ) (owner : Cid) (channel : ℕ) (s : State) (cs : List Call) → Each Lawful cs → Joined i owner channel s
    → InTurn (channel_at i s).at.total (channel_at i s).at.reliable
    (delivered_all (shown (own owner channel) (view_at i) live (run table_step s cs)))
unfolding delivered_all
run_in_turn i owner channel s cs each joined =
    along (own_law i owner channel) (λ h ocs ms. InTurn h.at.total h.at.reliable (delivered_all ms))
    nothing
    (λ r c ds ms j w e alive rest. step_in_turn (channel_at i r) (does (channel_at i r) owner c) (four_places j) (delivered_all ms) rest)
    (λ r c ds j w e dead. step_in_turn (channel_at i r) (does (channel_at i r) owner c) (four_places j) [] (nothing (one owner (channel_at i r) c).state))
    s cs each joined

-- ---- the reliable numbers in order

-- a number at distance 1 is the next one
one_ahead : (a b : ℕ) → a < turn → b < turn → distance a b ≡ pos 1 → b ≡ next a
one_ahead a b ha hb e = by (ahead a b) (ahead_is a b 1 e).0 (ahead_turn a b ha hb)
  where
    by : (n : ℕ) → n ≡ 1 → (n + a ≡ b) ⊎ (n + a ≡ b + turn) → b ≡ next a
    by n z (inl q) = omega arith
    by n z (inr q) = omega arith

-- a reliable number of 32 bits
abbrev Small : Delivered → Type 0
Small x = x.delivery.reliable.0 < turn

in_order : (t : Total) (n : Reliable) (xs : List Delivered) → n.0 < turn → Each Small xs → InTurn t n xs
    → reliable_numbers xs ≡ following n.0 (length (reliable_numbers xs))
unfolding InTurn reliable_numbers following
in_order t n [] hn none turns = refl
in_order t n (x ∷ xs) hn (more hx small) turns =
    by x.delivery.reliably turns.0 (in_order x.delivery.total x.delivery.reliable xs hx small turns.2)
  where
    m : ℕ
    m = x.delivery.reliable.0

    by : (b : Bool) → distance n.0 m ≡ pos (cond b 1 0) → reliable_numbers xs ≡ following m (length (reliable_numbers xs))
        → cond b (m ∷ reliable_numbers xs) (reliable_numbers xs) ≡ following n.0 (length (cond b (m ∷ reliable_numbers xs) (reliable_numbers xs)))
    by true q rest =
        let is : m ≡ next n.0 = one_ahead n.0 m hn hx q in
        ap₂ ◌∷◌ is (rest ∙ ap (λ (k : ℕ). following k (length (reliable_numbers xs))) is)
    by false q rest = rest ∙ ap (λ (k : ℕ). following k (length (reliable_numbers xs))) (sym ((distance_zero n.0 m hn hx).0 q))

-- the numbers of what is delivered were read from four octets, or stood in the record
brought_small : {x : Delivered} (cs : List Call) {ms : List (Came Channel Told)} → Each Lawful cs → BroughtBy x cs ms → Small x
brought_small (calls.message held deliver reply sender ours v d n ∷ cs) (more o each) (here w e t) = rw e (wrapper_says v d o).1
brought_small (c ∷ cs) (more o each) (later b) = brought_small cs each b
brought_small [] _ b = elim b [ ]

known_small : (h : Channel) (cs : List Call) (ms : List (Came Channel Told)) → Sound h.at → Each Lawful cs → (x : Delivered) → From h cs ms x → Small x
known_small h cs ms sound each x (received b) = brought_small cs each b
known_small h cs ms sound each x (kept j u e) = rw e (sound.held j)

-- the reliable numbers delivered are those that follow R, each once and in order
pub reliable_in_order : (i : ℕ) (owner : Cid) (channel : ℕ) (s : State) (cs : List Call) → Each Lawful cs → Joined i owner channel s
    → reliable_numbers (delivered_all (shown (own owner channel) (view_at i) live (run table_step s cs)))
    ≡ following (channel_at i s).at.reliable.0 (length (reliable_numbers (delivered_all (shown (own owner channel) (view_at i) live (run table_step s cs)))))
unfolding channel_at
reliable_in_order i owner channel s cs each joined =
    let sound = joined.right.sound i (has_place joined) in
    in_order (record_at s.table i).total (record_at s.table i).reliable _ sound.reliable
    (each_to _
    (known_small (channel_at i s) (own_of (own owner channel) cs) _ sound
    (each_to (own_of (own owner channel) cs) (λ c w. w.0) (own_each (own owner channel) cs each)))
    (nothing_invented i owner channel s cs each joined))
    (run_in_turn i owner channel s cs each joined)

-- the numbers that follow n, and that within one turn none comes twice
following_at : (n k a : ℕ) → a < k → get_or (following n k) a 0 ≡ (n + suc a) % turn
unfolding following
following_at n zero a l = absurd (omega arith)
following_at n (suc k) zero l = refl
following_at n (suc k) (suc a) l = following_at (next n) k a (omega arith) ∙ wraps_on
  where
    wraps_on : (next n + suc a) % turn ≡ (n + suc (suc a)) % turn
    wraps_on = omega arith

following_once : (n k a b : ℕ) → k ≤ turn → a < b → b < k → get_or (following n k) a 0 ≢ get_or (following n k) b 0
following_once n k a b most l h e = by (sym (following_at n k a (omega arith)) ∙ e ∙ following_at n k b h)
  where
    by : (n + suc a) % turn ≡ (n + suc b) % turn → ⊥
    by q = omega arith

-- so among the first 2^32 reliable deliveries no number is met twice
pub delivered_once : (i : ℕ) (owner : Cid) (channel : ℕ) (s : State) (cs : List Call) → Each Lawful cs → Joined i owner channel s → (a b : ℕ)
    → length (reliable_numbers (delivered_all (shown (own owner channel) (view_at i) live (run table_step s cs)))) ≤ turn
    → a < b → b < length (reliable_numbers (delivered_all (shown (own owner channel) (view_at i) live (run table_step s cs))))
    → get_or (reliable_numbers (delivered_all (shown (own owner channel) (view_at i) live (run table_step s cs)))) a 0
    ≢ get_or (reliable_numbers (delivered_all (shown (own owner channel) (view_at i) live (run table_step s cs)))) b 0
delivered_once i owner channel s cs each joined a b most l h =
    subst (λ (ns : List ℕ). get_or ns a 0 ≢ get_or ns b 0) (sym (reliable_in_order i owner channel s cs each joined))
    (following_once (channel_at i s).at.reliable.0 _ a b most l h)

-- ---- from the Join on

-- a call that is answered so made record i by the Join that it brings: it is the one of the table, and the one that is told of
message_made : (ts : List Record) (i : ℕ) (p : Parameters) (held : List ℕ) (deliver reply : ℕ) (sender ours : List ℕ) (v : ℕ) (d : List ℕ) (n : ℕ)
    → (message_outcome ts held deliver reply sender ours v d n).given ≡ Ok (given.Joined (Some i) (decision.Make p))
    → ((message_outcome ts held deliver reply sender ours v d n).table
    ≡ set ts i (new_record (record_at ts i) (cid_at sender 0) (join_of d) p n))
    × (i < length ts)
unfolding join_outcome plan_outcome
message_made ts i p held deliver reply sender ours v d n =
    message_cases ts held deliver reply sender ours v d n Made (λ why e. never (cc)) (joined_made _ (lowest_free ts) _ refl)
    (λ sized k carries e. never (cc))
  where
    Made : Outcome → Type 0
    Made out =
        out.given ≡ Ok (given.Joined (Some i) (decision.Make p))
        → (out.table ≡ set ts i (new_record (record_at ts i) (cid_at sender 0) (join_of d) p n)) × (i < length ts)

    joined_made : (known free : Option ℕ) (answer : Decision) → lowest_free ts ≡ free
        → Made (join_done ts held (cid_at sender 0) (join_of d) n known free answer)
    joined_made known free (decision.Refuse reason) f e = never (cc)
    joined_made known free (decision.Again r reciprocal) f e = never (cc)
    joined_made known None (decision.Make q) f e = never (cc)
    joined_made known (Some k) (decision.Make q) f e =
        let at : k ≡ i = cc in
        let parameters : q ≡ p = cc in
        (rw (at, parameters), subst (λ (m : ℕ). m < length ts) at (free_at ts k f).0)

-- the state that such a call leads to, and T and R of its record
record Begins (i : ℕ) (owner : Cid) (channel : ℕ) (j : Join) (s : State) : Type 0 where
  joined : Joined i owner channel s
  total : (channel_at i s).at.total ≡ j.total
  reliable : (channel_at i s).at.reliable ≡ j.reliable

begins : {i : ℕ} {owner : Cid} {channel : ℕ} {c : Call} {j : Join} (s : State) → Right s → Lawful c → Makes s c i owner channel j
    → Begins i owner channel j (table_step s c).state
unfolding table_step channel_at new_record
begins s right lawful (makes held deliver reply sender ours v d n i p e) =
    let made = message_made s.table i p (calls.lent_as held s.held) deliver reply sender ours v d n e in
    let fresh = new_record (record_at s.table i) (cid_at sender 0) (join_of d) p n in
    let is : record_at (message_outcome s.table (calls.lent_as held s.held) deliver reply sender ours v d n).table i ≡ fresh =
    ap (λ (ts : List Record). record_at ts i) made.0 ∙ tables.set_here s.table i fresh made.1 in
    record {
      joined =
          record {
            right = table_stays s (calls.message held deliver reply sender ours v d n) right lawful;
            has =
                tables.is_named_lem (cid_at sender 0) (join_of d).channel _
                (ap (λ (r : Record). r.used) is, ap (λ (r : Record). r.terms.owner) is, ap (λ (r : Record). r.terms.channel) is);
          };
      total = ap (λ (r : Record). r.total) is;
      reliable = ap (λ (r : Record). r.reliable) is;
    }

-- a Join call that makes record i for this owner and channel: from there on T and R are the Join's
pub joined_in_turn : (i : ℕ) (owner : Cid) (channel : ℕ) (s : State) (c : Call) (cs : List Call) (j : Join) → Right s → Lawful c → Each Lawful cs
    → Makes s c i owner channel j
    → InTurn j.total j.reliable (delivered_all (shown (own owner channel) (view_at i) live (run table_step (table_step s c).state cs)))
joined_in_turn i owner channel s c cs j right lawful each made =
    let b = begins s right lawful made in
    let ds = delivered_all (shown (own owner channel) (view_at i) live (run table_step (table_step s c).state cs)) in
    subst (λ (n : Reliable). InTurn j.total n ds) b.reliable
    (subst (λ (t : Total). InTurn t (channel_at i (table_step s c).state).at.reliable ds) b.total
    (run_in_turn i owner channel (table_step s c).state cs each b.joined))

-- and the reliable numbers delivered are those that follow the Join's
pub joined_in_order : (i : ℕ) (owner : Cid) (channel : ℕ) (s : State) (c : Call) (cs : List Call) (j : Join) → Right s → Lawful c → Each Lawful cs
    → Makes s c i owner channel j
    → reliable_numbers (delivered_all (shown (own owner channel) (view_at i) live (run table_step (table_step s c).state cs)))
    ≡ following j.reliable.0
    (length (reliable_numbers (delivered_all (shown (own owner channel) (view_at i) live (run table_step (table_step s c).state cs)))))
joined_in_order i owner channel s c cs j right lawful each made =
    let b = begins s right lawful made in
    let ns = reliable_numbers (delivered_all (shown (own owner channel) (view_at i) live (run table_step (table_step s c).state cs))) in
    reliable_in_order i owner channel (table_step s c).state cs each b.joined
    ∙ ap (λ (n : Reliable). following n.0 (length ns)) b.reliable

-- ---- an example: on channel 7 of the first owner 11 comes while 12 is held; and a second channel is joined

numbers : reliable_numbers (delivered_all (shown (own sample.first 7) (view_at 2) live (run table_step (sample.state_of sample.free 0) comes))) ≡ 11 ∷ 12 ∷ []
unfolding reliable_numbers wrapper_of number
numbers = ap reliable_numbers delivers_both

in_order_of : reliable_numbers (delivered_all (shown (own sample.first 7) (view_at 2) live (run table_step (sample.state_of sample.free 0) comes)))
    ≡ following 10 (length (reliable_numbers (delivered_all (shown (own sample.first 7) (view_at 2) live (run table_step (sample.state_of sample.free 0) comes)))))
unfolding channel_at
in_order_of = reliable_in_order 2 sample.first 7 (sample.state_of sample.free 0) comes lawful_comes sample.joined_one

-- the two numbers differ
once : get_or (reliable_numbers (delivered_all (shown (own sample.first 7) (view_at 2) live (run table_step (sample.state_of sample.free 0) comes)))) 0 0
    ≢ get_or (reliable_numbers (delivered_all (shown (own sample.first 7) (view_at 2) live (run table_step (sample.state_of sample.free 0) comes)))) 1 0
once =
    delivered_once 2 sample.first 7 (sample.state_of sample.free 0) comes lawful_comes sample.joined_one 0 1
    (rw numbers (lit≤ tt)) (lit< tt) (rw numbers (lit< tt))

-- the second owner's Join is answered with reciprocal channel 9
abbrev join_call : Call
join_call = calls.message held_size deliver_size reply_size (sample.cid 3 4) (replicate 16 0) 4 sample.join_data 9

-- it is made in the lowest free record
pub makes_with : (lent : List ℕ) → length lent ≡ held_size
    → (message_outcome (sample.table_of sample.free) lent deliver_size reply_size (sample.cid 3 4) (replicate 16 0) 4 sample.join_data 9).given
    ≡ Ok (given.Joined (Some 0) (decision.Make (parameters_at sample.join_data 31)))
unfolding message_outcome message_sizes asked_of read_message readable readable_join length_of look message_of join_of address_of parameters_at join_asks join_outcome
    found lowest_free named same cid_at number decided decide_new legal legal_block legal_names legal_parameters min_expiry
makes_with lent l = rw (l, (sample.joined_one).right.formed)

makes_first : Makes (sample.state_of sample.free 0) join_call 0 sample.second 7 (join_of sample.join_data)
unfolding cid_at join_of number
makes_first =
    makes held_size deliver_size reply_size (sample.cid 3 4) (replicate 16 0) 4 sample.join_data 9 0 (parameters_at sample.join_data 31)
    (makes_with (calls.lent_as held_size (sample.held_of 0)) (lent_length held_size (sample.held_of 0)))

-- and its first wrapper comes, with number 11
abbrev first_comes : List Call
first_comes = sample.wrapper_call (sample.cid 3 4) 11 (4 ∷ 5 ∷ 6 ∷ []) ∷ []

lawful_first : Each Lawful first_comes
lawful_first = more (sample.lawful (sample.wrapper_data 11 (4 ∷ 5 ∷ 6 ∷ [])) refl) none

own_first : own_of (own sample.second 7) first_comes ≡ first_comes
unfolding own_of own is_cid cid_at number same names readable length_of look wrapper_of
own_first = refl

joined_turn : InTurn (total 10) (reliable 10)
    (delivered_all (shown (own sample.second 7) (view_at 0) live (run table_step (table_step (sample.state_of sample.free 0) join_call).state first_comes)))
unfolding join_of number
joined_turn =
    joined_in_turn 0 sample.second 7 (sample.state_of sample.free 0) join_call first_comes (join_of sample.join_data) (sample.joined_one).right
    (sample.lawful sample.join_data refl) lawful_first makes_first
