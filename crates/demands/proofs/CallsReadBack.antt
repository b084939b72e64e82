-- Demand 2 of the order, call by call: whatever a message call, an elapsed call or a leave call answers, the octets that it writes as its reply, or into a
-- record's cell, are read as exactly the messages that its answer says, and a refused call writes none (`message_replies`, `elapsed_sends`, `leave_replies`).
-- All sizes lent and all tables are meant, refused ones too. Assumes what the machine's types say: the counters and names of the table's records have the
-- widths of their fields (`Wide`), a CID and data are octets, and a reciprocal channel number has two octets. The example at the end meets that.
use Prim.Native.Nat.{ℕ, ◌<◌}
use mathlib.Core.Bool.{false}
use mathlib.Core.List.{List, [], ◌∷◌}
use mathlib.Core.Path.{◌≡◌, refl, sym, subst}
use lib.Dec.{lit<}
use lib.ListN.{length, replicate, get_or-map}
use Rattle.std.specs.Prelude.{Option, Some, None, is_some}
use Rattle.octets.specs.Octets.{number, Octets as Bytes}
use Rattle.message.specs.Layouts.{cid_at, join_of, reliable}
use Rattle.message.specs.declared.Cid.{Cid}
use Rattle.message.specs.declared.Join.{Join}
use Rattle.record.specs.Reasons.{leaving_reason}
use Rattle.record.specs.declared.Record.{Record}
use Rattle.gap.specs.Elapsed.{gives, elapsed_of, phased, in_standoff}
use Rattle.gap.specs.declared.Elapsed.{Elapsed}
use Rattle.gap.specs.declared.Event.TheVariants as event
use Rattle.gap.specs.Range.{nearer, nearest, nak_first, nak_last}
use Rattle.gap.specs.declared.Event.{Event}
use Rattle.joining.specs.Replies.{departure, missing}
use Rattle.table.specs.Table.{same, found, lowest_free, blank, record_at, named}
use Rattle.table.proofs.Finding.{found_at_lem}
use Rattle.writing.specs.Fits.{Octets}
use Rattle.sending.specs.Sent.{event_of}
use Rattle.carry.proofs.DeliveredLength.{each_at}
use Rattle.member.specs.Sizes.{deliver_size, reply_size, elapsed_sizes, leave_sizes, cells_size}
use Rattle.member.specs.Messages.{existing_at, join_outcome, plan_outcome, message_outcome}
use Rattle.member.specs.Elapsing.{elapsed_outcome, sent_by}
use Rattle.member.specs.Leaving.{departing, leave_outcome}
use Rattle.demands.specs.Calls.{Sound}
use Rattle.demands.specs.Channel.{entry_at}
use Rattle.demands.specs.ReadBack.{ReadFrom, event_means, given_means, leave_means, FitTerms, FitExisting, Wide}
use Rattle.demands.proofs.Lemmas.OneStep.{brought}
use Rattle.demands.proofs.Lemmas.Outcomes.{message_cases, leave_cases, elapsed_cases}
use Rattle.demands.proofs.Lemmas.Brought.{wrapper_says}
use Rattle.demands.proofs.Lemmas.Sample as sample
use Rattle.demands.proofs.RepliesReadBack.{none_read, step_reply_read, elapsed_read, leave_read, decided_read, join_fits, existing_fits, terms_fit}

-- ---- message calls

-- the octets of the reply to a message are read as what the answer says
pub message_replies : (ts : List Record) (held : List ℕ) (deliver reply : ℕ) (sender ours : List ℕ) (v : ℕ) (d : List ℕ) (n : ℕ)
    → Wide ts → Bytes sender → Bytes d → Octets 2 n
    → ReadFrom (message_outcome ts held deliver reply sender ours v d n).reply 0
    (given_means ts (cid_at sender 0) (join_of d) n (message_outcome ts held deliver reply sender ours v d n).given)
unfolding join_outcome plan_outcome
message_replies ts held deliver reply sender ours v d n wide b c g =
    message_cases ts held deliver reply sender ours v d n (λ out. ReadFrom out.reply 0 (given_means ts o j n out.given)) (λ why. none_read)
    (decided_read o j (existing_at ts (found o j.channel ts)) n (is_some (lowest_free ts)) (join_fits sender d b c) g
    (known (found o j.channel ts) refl))
    (λ sized i carries.
    let w = wide i carries.within in
    step_reply_read (record_at ts i) (brought v d) w.0 w.1 (wrapper_says v d c))
  where
    o : Cid
    o = cid_at sender 0

    j : Join
    j = join_of d

    -- what the table has for the Join
    known : (f : Option ℕ) → found o j.channel ts ≡ f → FitExisting (existing_at ts f)
    known None e = tt
    known (Some i) e =
        let w = wide i (found_at_lem o j.channel ts i e).0 in
        existing_fits (record_at ts i) w.0 w.1

-- ---- elapsed calls

-- the octets of record i's cell are read as its event
pub elapsed_sends : (ts : List Record) (cells ms i : ℕ) → Wide ts → i < length ts
    → ReadFrom (sent_by (entry_at (elapsed_outcome ts cells ms) i)) 0
    (event_means (record_at ts i).terms (entry_at (elapsed_outcome ts cells ms) i).event)
unfolding elapsed_of event_of
elapsed_sends ts cells ms i wide l =
    elapsed_cases ts cells ms (λ p. Of (entry_at p i))
    (λ why. subst Of (sym (get_or-map (λ (r : Record). gives r event.Nothing) ts i (blank []))) none_read)
    (subst Of (sym (get_or-map (λ (r : Record). elapsed_of r ms) ts i (blank []))) (elapsed_read (record_at ts i) ms (wide i l).0 (wide i l).1))
  where
    Of : Elapsed → Type 0
    Of e = ReadFrom (sent_by e) 0 (event_means (record_at ts i).terms e.event)

-- ---- leave calls

pub leave_replies : (ts : List Record) (reply : ℕ) (owner : List ℕ) (channel reason : ℕ) → Wide ts
    → ReadFrom (leave_outcome ts reply owner channel reason).reply 0 (leave_means ts reason (leave_outcome ts reply owner channel reason).given)
unfolding departing
leave_replies ts reply owner channel reason wide =
    leave_cases ts reply owner channel reason (λ p. ReadFrom p.reply 0 (leave_means ts reason p.given)) (λ why. none_read)
    (λ i l e r.
    let w = wide i (found_at_lem (cid_at owner 0) channel ts i e).0 in
    leave_read (record_at ts i) reason w.0 w.1 r)

-- ---- examples: the table in which record 2 has channel 7 of the first owner, and on it the second owner's Join to channel 7, elapsed time, and a leave call

wide_table : Wide (sample.table_of sample.free)
wide_table =
    each_at (λ r. Sound r × FitTerms r.terms) (blank []) (sample.table_of sample.free)
    (free, (free, (holding, (free, (free, (free, (free, (free, tt))))))))
  where
    free : Sound sample.free × FitTerms (sample.free).terms
    free = (
      sample.sound_free,
      record { owner = record { high = lit< tt; low = lit< tt }; channel = lit< tt; mid = lit< tt; reciprocal = lit< tt },
    )

    holding : Sound (sample.holding sample.first) × FitTerms (sample.holding sample.first).terms
    holding = (sample.sound_holding sample.first, terms_fit)

join_replies : (held : List ℕ)
    → ReadFrom (message_outcome (sample.table_of sample.free) held deliver_size reply_size (sample.cid 3 4) (replicate 16 0) 4 sample.join_data 9).reply 0
    (given_means (sample.table_of sample.free) (cid_at (sample.cid 3 4) 0) (join_of sample.join_data) 9
    (message_outcome (sample.table_of sample.free) held deliver_size reply_size (sample.cid 3 4) (replicate 16 0) 4 sample.join_data 9).given)
join_replies held =
    message_replies (sample.table_of sample.free) held deliver_size reply_size (sample.cid 3 4) (replicate 16 0) 4 sample.join_data 9 wide_table
    (sample.lawful (sample.cid 3 4) refl) (sample.lawful sample.join_data refl) (lit< tt)

-- time passes, and record 2 asks for the number that it misses
asks_for : (entry_at (elapsed_outcome (sample.table_of sample.free) cells_size 50) 2).event ≡ event.Nak (reliable 10) (reliable 11) (reliable 11) false
unfolding elapsed_outcome elapsed_sizes elapsed_of phased in_standoff nak_first nak_last nearest nearer
asks_for = rw (sample.joined_one).right.formed

nak_sent : ReadFrom (sent_by (entry_at (elapsed_outcome (sample.table_of sample.free) cells_size 50) 2)) 0
    (missing (sample.holding sample.first).terms (reliable 10) (reliable 11) (reliable 11) ∷ [])
nak_sent =
    subst
    (λ (e : Event).
    ReadFrom (sent_by (entry_at (elapsed_outcome (sample.table_of sample.free) cells_size 50) 2)) 0 (event_means (sample.holding sample.first).terms e))
    asks_for
    (elapsed_sends (sample.table_of sample.free) cells_size 50 2 wide_table (lit< tt))

-- the caller leaves channel 7 of the first owner
leaves : leave_outcome (sample.table_of sample.free) reply_size (sample.cid 1 2) 7 1 ≡ departing (sample.table_of sample.free) 2 1
unfolding leave_outcome leave_sizes found named same cid_at number leaving_reason
leaves = rw (sample.joined_one).right.formed

leaving_sent : ReadFrom (departing (sample.table_of sample.free) 2 1).reply 0 (departure (sample.holding sample.first).terms (reliable 10) 1 ∷ [])
unfolding departing
leaving_sent = rw leaves at (leave_replies (sample.table_of sample.free) reply_size (sample.cid 1 2) 7 1 wide_table)
