-- Demand 2 of the order, for what the calls send: the octets of every reply and of every event, read as a block, are exactly the messages that the
-- answer means, in their order, and no others (`reply_read`, `event_read`, `join_reply_read`): an ACK, a Leaving, a NAK, a Join Refuse, a Join Accept,
-- and for a new member a Join Accept with an ACK behind it. They assume of the numbers sent that each has the width of its field. A wrapper's step,
-- elapsed time, a leave call and the answer to a Join send no others if the record's counters have 32 bits (`Sound`) and its names, or the Join's, have
-- the widths of their fields; so for these it is said without that (`step_reply_read`, `elapsed_read`, `leave_read`, `decided_read`). The example at
-- the end meets all that is assumed.
use Prim.Native.Nat.{ℕ, ◌<◌, ◌≤◌}
use mathlib.Core.Bool.{Bool, true, false, false≢true, not, ◌&&◌}
use mathlib.Core.List.{List, [], ◌∷◌, ◌++◌, append-nil}
use mathlib.Core.Path.{◌≡◌, refl, sym, ap, ap₂, subst, ◌∙◌}
use native.Mathlib.Omega.{arith}
use lib.Dec.{ltb, eqb, lit<, lit≤}
use lib.ListN.{length, get_or, length-append}
use lib.Seq.{take-nil}
use borrow.Author.Tests.{ltb-true, ltb-false, ne_eqb}
use Rattle.std.specs.Prelude.{Option, Some, None}
use Rattle.octets.specs.Octets.{number, octets, Octets as Bytes}
use Rattle.counter.specs.Distance.{turn}
use Rattle.counter.specs.declared.Reliable.{Reliable}
use Rattle.counter.proofs.Distances.{next_below, before_below}
use Rattle.block.specs.Block.{most_block}
use Rattle.block.specs.Written.{Piece, together, Short, AllShort}
use Rattle.block.proofs.Together.{in_order, no_more}
use Rattle.message.specs.Layouts.{reliable, cid_at, parameters_at, address_of as addressOfJoin, join_of}
use Rattle.message.specs.Reading.{read_message}
use Rattle.message.specs.declared.Address.{Address}
use Rattle.message.specs.declared.Address.TheVariants as address
use Rattle.message.specs.declared.Cid.{Cid}
use Rattle.message.specs.declared.Join.{Join}
use Rattle.message.specs.declared.Message.{Message}
use Rattle.message.specs.declared.Message.TheVariants as message
use Rattle.message.specs.declared.Parameters.{Parameters}
use Rattle.record.specs.Legal.{legal_names, legal_parameters}
use Rattle.record.specs.Profile.{min_expiry}
use Rattle.record.specs.Reasons.{lost_sequence, leaving_reason}
use Rattle.record.specs.WellFormed.{closed}
use Rattle.record.specs.declared.Gap.{Gap}
use Rattle.record.specs.declared.Record.{Record}
use Rattle.record.specs.declared.Terms.{Terms}
use Rattle.gap.specs.Elapsed.{in_standoff, phased, elapsed_of}
use Rattle.gap.specs.Range.{nearer, nearest, end_by, nak_first, nak_last}
use Rattle.gap.specs.declared.Elapsed.{Elapsed}
use Rattle.gap.specs.declared.Event.{Event}
use Rattle.gap.specs.declared.Event.TheVariants as event
use Rattle.gap.proofs.Moves.{Next, quiet, stands_on, asks, waits_on, once_more, Move, stands, expires, lost, goes_on, moves}
use Rattle.gap.proofs.Stays.{terms_stay}
use Rattle.wrapper.specs.Judge.{heard}
use Rattle.wrapper.specs.Hold.{placed}
use Rattle.wrapper.specs.Release.{released}
use Rattle.wrapper.specs.Settle.{lost as isLost, gapped, asked, spared, acknowledged, settled_by, settled}
use Rattle.wrapper.specs.Taken.{taken}
use Rattle.wrapper.specs.declared.Arrived.{Arrived}
use Rattle.wrapper.specs.declared.Reply.{Reply}
use Rattle.wrapper.specs.declared.Reply.TheVariants as reply
use Rattle.wrapper.specs.declared.Settled.{Settled}
use Rattle.joining.specs.Joining.{legal_block, legal, existing_of, decide_new, decide_for, decide_at, decided}
use Rattle.joining.specs.Replies.{member_at, asked_at, join_refuse_of, acceptance, departure, missing}
use Rattle.joining.specs.declared.Decision.{Decision}
use Rattle.joining.specs.declared.Decision.TheVariants as decision
use Rattle.joining.specs.declared.Existing.{Existing}
use Rattle.writing.specs.Fields.{fields_of}
use Rattle.writing.specs.Fits.{Octets, FitMembership, Fits}
use Rattle.writing.specs.Writing.{vector_of, address_of, has_form, contents_of, pdu_of}
use Rattle.sending.specs.Sent.{sent_of, reply_of, event_of, welcome_of, join_reply_of}
use Rattle.demands.specs.Calls.{Sound, Both}
use Rattle.demands.specs.ReadBack.{ReadAt, ReadFrom, reply_means, event_means, join_means, FitTerms, FitReply, FitEvent, FitDecision, FitAsked, FitExisting}
use Rattle.demands.proofs.Lemmas.Back.{short, message_back}
use Rattle.record.proofs.Choices.{either}
use Rattle.demands.proofs.Lemmas.Sounds.{taken_sound}
use Rattle.demands.proofs.Lemmas.Brought.{number_short}
use Rattle.demands.proofs.Lemmas.Kept.{terms_kept}
use Rattle.demands.proofs.Lemmas.Sample as sample

-- ---- messages written one behind the other

abbrev piece_of : Message → Piece
piece_of m = record { vector = vector_of m; body = fields_of m ++ contents_of m [] }

piece_short : (m : Message) → Short (piece_of m)
piece_short m =
    let behind : length (fields_of m ++ contents_of m []) ≡ length (fields_of m) = rw (take-nil, append-nil) in
    record { vector = (short m).0; body = omega (arith, (short m).1, behind) }

sent_short : (m : Message) → length (sent_of m) < 4096
unfolding pdu_of octets
sent_short m = omega (arith, (piece_short m).body)

module _ (ps : List Piece) (a : AllShort ps) (h : length (together ps) ≤ most_block) where
  read_at : (k : ℕ) (m : Message) → k < length ps → get_or ps k (piece_of m) ≡ piece_of m → Fits m → has_form m ≡ true → ReadAt (together ps) k m
  read_at k m l e fits form =
      let f = in_order ps a h k (piece_of m) l in
      record {
        found = f.0;
        there = f.1;
        message =
            ap₂ read_message f.2.vector f.2.body
            ∙ ap (λ (p : Piece). read_message p.vector p.body) e
            ∙ message_back m [] fits form;
      }

pub none_read : ReadFrom [] 0 []
unfolding together
none_read = no_more [] tt (lit≤ tt) 0 (lit≤ tt)

one_read : (m : Message) → Fits m → has_form m ≡ true → ReadFrom (sent_of m) 0 (m ∷ [])
unfolding together pdu_of
one_read m fits form =
    let ps : List Piece = piece_of m ∷ [] in
    let few : length (together ps) ≤ most_block = rw append-nil (omega (arith, sent_short m)) in
    let a : AllShort ps = (piece_short m, tt) in
    subst (λ (s : List ℕ). ReadFrom s 0 (m ∷ [])) (append-nil (sent_of m))
    (read_at ps a few 0 m (lit< tt) refl fits form, no_more ps a few 1 (lit≤ tt))

two_read : (m n : Message) → Fits m → has_form m ≡ true → Fits n → has_form n ≡ true → ReadFrom (sent_of m ++ sent_of n) 0 (m ∷ n ∷ [])
unfolding together pdu_of
two_read m n fits form fits-n form-n =
    let ps : List Piece = piece_of m ∷ piece_of n ∷ [] in
    let few : length (together ps) ≤ most_block = rw (append-nil, length-append (sent_of m) (sent_of n)) (omega (arith, sent_short m, sent_short n)) in
    let a : AllShort ps = (piece_short m, (piece_short n, tt)) in
    subst (λ (s : List ℕ). ReadFrom (sent_of m ++ s) 0 (m ∷ n ∷ [])) (append-nil (sent_of n))
    (read_at ps a few 0 m (lit< tt) refl fits form, (read_at ps a few 1 n (lit< tt) refl fits-n form-n, no_more ps a few 2 (lit≤ tt)))

-- ---- numbers of the width of their fields

member_fits : (t : Terms) (r : Reliable) → FitTerms t → Octets 4 r.0 → FitMembership (member_at t r)
unfolding member_at
member_fits t r f h = record { leader = f.owner; channel = f.channel; mid = f.mid; reliable = h }

asked_fits : (owner : Cid) (j : Join) (r : Reliable) → FitAsked owner j → Octets 4 r.0 → FitMembership (asked_at owner j r)
unfolding asked_at
asked_fits owner j r f h = record { leader = f.owner; channel = f.channel; mid = f.mid; reliable = h }

-- ---- each is read back

ack_read : (r : Reliable) → Octets 4 r.0 → ReadFrom (sent_of (message.Ack r)) 0 (message.Ack r ∷ [])
unfolding has_form address_of
ack_read r h = one_read (message.Ack r) h refl

-- every Leaving, that of a leave call too
pub departure_read : (t : Terms) (r : Reliable) (reason : ℕ) → FitTerms t → Octets 4 r.0 → Octets 1 reason
    → ReadFrom (sent_of (departure t r reason)) 0 (departure t r reason ∷ [])
unfolding departure has_form address_of
departure_read t r reason f h o = one_read (departure t r reason) (member_fits t r f h, o) refl

missing_read : (t : Terms) (r first last : Reliable) → FitTerms t → Octets 4 r.0 → Octets 4 first.0 → Octets 4 last.0
    → ReadFrom (sent_of (missing t r first last)) 0 (missing t r first last ∷ [])
unfolding missing has_form address_of
missing_read t r first last f h a b = one_read (missing t r first last) (member_fits t r f h, a, b) refl

join_refuse_read : (owner : Cid) (j : Join) (reason : ℕ) → FitAsked owner j → Octets 1 reason
    → ReadFrom (sent_of (join_refuse_of owner j reason)) 0 (join_refuse_of owner j reason ∷ [])
unfolding join_refuse_of has_form address_of
join_refuse_read owner j reason f o = one_read (join_refuse_of owner j reason) (asked_fits owner j j.reliable f f.reliable, o) refl

acceptance_read : (owner : Cid) (j : Join) (r : Reliable) (n : ℕ) → FitAsked owner j → Octets 4 r.0 → Octets 2 n
    → ReadFrom (sent_of (acceptance owner j r n)) 0 (acceptance owner j r n ∷ [])
unfolding acceptance has_form address_of
acceptance_read owner j r n f h o = one_read (acceptance owner j r n) (asked_fits owner j r f h, o) refl

welcome_read : (owner : Cid) (j : Join) (n : ℕ) → FitAsked owner j → Octets 2 n
    → ReadFrom (welcome_of owner j n) 0 (acceptance owner j j.reliable n ∷ message.Ack j.reliable ∷ [])
unfolding welcome_of acceptance has_form address_of
welcome_read owner j n f o =
    two_read (acceptance owner j j.reliable n) (message.Ack j.reliable) (asked_fits owner j j.reliable f f.reliable, o) refl
    f.reliable refl

-- the reply of a wrapper's step
pub reply_read : (t : Terms) (x : Reply) → FitTerms t → FitReply x → ReadFrom (reply_of t x) 0 (reply_means t x)
unfolding reply_of
reply_read t reply.Nothing f g = none_read
reply_read t (reply.Ack r) f g = ack_read r g
reply_read t (reply.Leaving reason r) f g = departure_read t r reason f g.1 g.0

-- what elapsed time sends
pub event_read : (t : Terms) (x : Event) → FitTerms t → FitEvent x → ReadFrom (event_of t x) 0 (event_means t x)
unfolding event_of
event_read t event.Nothing f g = none_read
event_read t (event.Nak r first last outbound) f g = missing_read t r first last f g.0 g.1 g.2
event_read t (event.Leaving reason r) f g = departure_read t r reason f g.1 g.0

-- the reply to a Join, where n is the caller's reciprocal number
pub join_reply_read : (owner : Cid) (j : Join) (n : ℕ) (x : Decision) → FitAsked owner j → Octets 2 n → FitDecision x
    → ReadFrom (join_reply_of owner j n x) 0 (join_means owner j n x)
unfolding join_reply_of
join_reply_read owner j n (decision.Refuse reason) f o g = join_refuse_read owner j reason f g
join_reply_read owner j n (decision.Again r reciprocal) f o g = acceptance_read owner j r reciprocal f g.0 g.1
join_reply_read owner j n (decision.Make p) f o g = welcome_read owner j n f o

-- ---- what the steps send has the width of its fields

-- an ACK and a Leaving of a step carry R as the step leaves it
abbrev Says : Record → Reply → Type 0
Says r reply.Nothing = Unit {0}
Says r (reply.Ack n) = n ≡ r.reliable
Says r (reply.Leaving reason n) = (reason ≡ lost_sequence) × (n ≡ r.reliable)

acknowledged_says : (r : Record) (w : Arrived) → Says (acknowledged r w).after (acknowledged r w).reply
unfolding acknowledged
acknowledged_says r w = either (λ (s : Settled). Says s.after s.reply) (asked r w && not (spared r w)) _ _ refl tt

settled_says : (r : Record) (w : Arrived) → Says (settled r w).after (settled r w).reply
unfolding settled gapped
settled_says r w =
    either Settles (closed r) _ _ (acknowledged_says _ w) (either Settles (isLost r w.oldest) _ _ (refl, refl) (acknowledged_says _ w))
  where
    Settles : Option Record → Type 0
    Settles g = Says (settled_by g r w).after (settled_by g r w).reply

step_says : (r : Record) (w : Arrived) → Says (taken r w).after (taken r w).reply
unfolding taken
step_says r w = settled_says (released (placed (heard r w.reliable) w).after).after w

says_fits : (r : Record) (x : Reply) → r.reliable.0 < turn → Says r x → FitReply x
says_fits r reply.Nothing h q = tt
says_fits r (reply.Ack n) h q = rw q h
says_fits r (reply.Leaving reason n) h q = (rw q.0 (lit< tt), rw q.1 h)

step_fits : (r : Record) (w : Arrived) → Sound r → Both w.total w.reliable → FitReply (taken r w).reply
step_fits r w s b = says_fits (taken r w).after (taken r w).reply (taken_sound r w s b).reliable (step_says r w)

-- the octets of a wrapper's reply are read as what the step replies, whatever the wrapper
pub step_reply_read : (r : Record) (w : Arrived) → Sound r → FitTerms r.terms → Both w.total w.reliable
    → ReadFrom (reply_of (taken r w).after.terms (taken r w).reply) 0 (reply_means r.terms (taken r w).reply)
step_reply_read r w s f b =
    subst (λ (t : Terms). ReadFrom (reply_of t (taken r w).reply) 0 (reply_means r.terms (taken r w).reply)) (sym (terms_kept r w))
    (reply_read r.terms (taken r w).reply f (step_fits r w s b))

last_fits : (n : Option Reliable) (k : Reliable) → k.0 < turn → (end_by n k).0 < turn
last_fits (Some n) k h = before_below 1 n.0
last_fits None k h = h

elapsed_fits : (r : Record) (ms : ℕ) → Sound r → FitEvent (elapsed_of r ms).event
unfolding nak_first nak_last
elapsed_fits r ms s = by (moves r ms)
  where
    on : {g h : Gap} {e : Event} → Next r ms g h e → FitEvent e
    on quiet = tt
    on (stands_on l) = tt
    on (asks l) = (s.reliable, next_below r.reliable.0, last_fits (nearest r.reliable None r.places) r.known s.known)
    on (waits_on l) = tt
    on (once_more l c) = tt

    by : {o : Elapsed} → Move r ms o → FitEvent o.event
    by (stands u) = tt
    by (expires u x) = (lit< tt, s.reliable)
    by (lost u x g l c) = (lit< tt, s.reliable)
    by (goes_on u x m) = on m

-- the octets that elapsed time sends are read as its event
pub elapsed_read : (r : Record) (ms : ℕ) → Sound r → FitTerms r.terms
    → ReadFrom (event_of (elapsed_of r ms).after.terms (elapsed_of r ms).event) 0 (event_means r.terms (elapsed_of r ms).event)
elapsed_read r ms s f =
    subst (λ (t : Terms). ReadFrom (event_of t (elapsed_of r ms).event) 0 (event_means r.terms (elapsed_of r ms).event)) (sym (terms_stay r ms))
    (event_read r.terms (elapsed_of r ms).event f (elapsed_fits r ms s))

leaving_octet : (n : ℕ) → leaving_reason n ≡ true → n < 256
unfolding leaving_reason
leaving_octet n e = by (ltb n 256) refl
  where
    by : (b : Bool) → ltb n 256 ≡ b → n < 256
    by true q = ltb-true n 256 q
    by false q =
        let l : 256 ≤ n = ltb-false n 256 q in
        let other : (k : ℕ) → k < 256 → eqb n k ≡ false = λ k h. ne_eqb n k (λ z. omega arith) in
        absurd
        (false≢true
        (rw (other 1 (lit< tt), other 6 (lit< tt), other 7 (lit< tt), other 8 (lit< tt), other 9 (lit< tt), other 10 (lit< tt), other 11 (lit< tt)) at e))

-- the octets of a leave call are read as a Leaving with R and the caller's reason
pub leave_read : (r : Record) (reason : ℕ) → Sound r → FitTerms r.terms → leaving_reason reason ≡ true
    → ReadFrom (sent_of (departure r.terms r.reliable reason)) 0 (departure r.terms r.reliable reason ∷ [])
leave_read r reason s f e = departure_read r.terms r.reliable reason f s.reliable (leaving_octet reason e)

decided_fits : (j : Join) (e : Option Existing) (n : ℕ) (free : Bool) → FitExisting e → FitDecision (decided j e n free)
unfolding decided decide_new
decided_fits j e n free f = either FitDecision (legal j) _ _ (by j.address e f) (lit< tt)
  where
    for : (e : Option Existing) (p : Parameters) → FitExisting e → FitDecision (decide_for e j.mid p n free)
    for (Some x) p g = either FitDecision (eqb x.mid j.mid) _ _ g (lit< tt)
    for None p g = either FitDecision (eqb n 0) _ _ (lit< tt) (either FitDecision free _ _ tt (lit< tt))

    by : (a : Address) (e : Option Existing) → FitExisting e → FitDecision (decide_at a e j.mid n free)
    by (address.Null p) e g = for e p g
    by (address.Ipv4 x p) e g = for e p g
    by (address.Other t) e g = lit< tt

-- the octets of the reply to a Join are read as what was decided
pub decided_read : (owner : Cid) (j : Join) (e : Option Existing) (n : ℕ) (free : Bool) → FitAsked owner j → Octets 2 n → FitExisting e
    → ReadFrom (join_reply_of owner j n (decided j e n free)) 0 (join_means owner j n (decided j e n free))
decided_read owner j e n free f o g = join_reply_read owner j n (decided j e n free) f o (decided_fits j e n free g)

-- so are the names of a Join that was read from octets, and what a record has of its channel
pub join_fits : (sender d : List ℕ) → Bytes sender → Bytes d → FitAsked (cid_at sender 0) (join_of d)
unfolding cid_at join_of
join_fits sender d s o =
    record {
      owner = record { high = number_short sender 0 8 s; low = number_short sender 8 8 s };
      channel = number_short d 18 2 o;
      mid = number_short d 16 2 o;
      reliable = number_short d 26 4 o;
    }

pub existing_fits : (r : Record) → Sound r → FitTerms r.terms → FitExisting (Some (existing_of r))
existing_fits r s f = (s.reliable, f.reciprocal)

-- ---- an example: channel 7 of the first owner asks for 11, and the second owner's Join to channel 7 is answered

pub terms_fit : FitTerms (sample.holding sample.first).terms
terms_fit = record { owner = record { high = lit< tt; low = lit< tt }; channel = lit< tt; mid = lit< tt; reciprocal = lit< tt }

nak_back : ReadFrom (event_of (elapsed_of (sample.holding sample.first) 50).after.terms (elapsed_of (sample.holding sample.first) 50).event) 0
    (missing (sample.holding sample.first).terms (reliable 10) (reliable 11) (reliable 11) ∷ [])
unfolding elapsed_of phased in_standoff nak_first nak_last nearest nearer
nak_back = elapsed_read (sample.holding sample.first) 50 (sample.sound_holding sample.first) terms_fit

welcome_back : ReadFrom (join_reply_of sample.second (join_of sample.join_data) 9 (decided (join_of sample.join_data) None 9 true)) 0
    (acceptance sample.second (join_of sample.join_data) (reliable 10) 9 ∷ message.Ack (reliable 10) ∷ [])
unfolding decided decide_new legal legal_block legal_names legal_parameters min_expiry cid_at join_of addressOfJoin parameters_at number
welcome_back =
    decided_read sample.second (join_of sample.join_data) None 9 true
    (join_fits (sample.cid 3 4) sample.join_data (sample.lawful (sample.cid 3 4) refl) (sample.lawful sample.join_data refl)) (lit< tt) tt
