-- That the theorems on single calls are not empty: calls that meet what they assume. A message call whose held octets have the wrong size is refused by 1, an elapsed call
-- over 1,000 by 3, a leave call for a channel that nobody has by 6, and each leaves everything; a Join that makes record 0 leaves record 2 and its places; and a
-- wrapper that closes a gap delivers two, the first of which is read in the first cell; and time that passes keeps a well-formed table well formed.
use Prim.Native.Nat.{ℕ, ◌*◌}
use Prim.{tt}
use mathlib.Core.List.{List, [], ◌∷◌}
use mathlib.Core.Logic.{◌≢◌}
use mathlib.Core.Path.{◌≡◌, refl, sym, ap, subst, ◌∙◌}
use mathlib.Core.Bool.{true}
use native.Mathlib.Omega.{arith}
use lib.ListN.{length, replicate, get_or}
use lib.Dec.{lit<}
use Rattle.std.specs.Prelude.{Option, Some, Ok}
use Rattle.octets.specs.Octets.{part, number}
use Rattle.counter.specs.Distance.{distance}
use Rattle.message.specs.Lengths.{reliable_wrapper, look, length_of}
use Rattle.message.specs.Layouts.{total, reliable, cid_at, wrapper_of}
use Rattle.message.specs.Reading.{readable, message_of, read_message}
use Rattle.record.specs.WellFormed.{most_contents, closed}
use Rattle.record.proofs.Choices.{never}
use Rattle.wrapper.specs.Judge.{consistent, judged_by, judged, farther, heard}
use Rattle.wrapper.specs.Hold.{next_one, placed}
use Rattle.wrapper.specs.Release.{next_held, release_at, release_from, released}
use Rattle.wrapper.specs.Settle.{gapped, asked, spared, acknowledged, settled}
use Rattle.wrapper.specs.Taken.{taken, stepped}
use Rattle.wrapper.specs.declared.Fate.TheVariants as fate
use Rattle.wrapper.specs.declared.Reply.TheVariants as reply
use Rattle.table.specs.Table.{found, named, table_formed, free_table, same}
use Rattle.table.proofs.Tables.{free_table_formed}
use Rattle.carry.specs.Carried.{from_place, delivered_by, Delivered}
use Rattle.asking.specs.Asking.{wrapper_asks, asked_of}
use Rattle.member.specs.Sizes.{deliver_size, reply_size, message_sizes, elapsed_sizes, leave_sizes, held_size}
use Rattle.member.specs.Messages.{message_outcome, messaged_as, messaged, message_end, Outcome, deliver_after, wrapper_outcome, plan_outcome}
use Rattle.member.specs.declared.Given.TheVariants as given
use Rattle.member.specs.declared.Messaged.{Messaged}
use Rattle.member.specs.Elapsing.{elapsed_outcome, passed_table, elapsed_end}
use Rattle.member.specs.Leaving.{leave_outcome, leave_end}
use Rattle.demands.specs.Refusals.{first_number, message_checks, elapsed_checks, leave_checks, RefusedBy, message_stands, elapsed_stands, leave_stands}
use Rattle.demands.proofs.Refusals.{message_leaves, elapsed_leaves, leave_leaves}
use Rattle.demands.specs.Frame.{moved, Still}
use Rattle.demands.proofs.Frame.{message_frame}
use Rattle.demands.proofs.Lemmas.Sample as sample
use Rattle.demands.proofs.InTurn.{makes_with}
use Rattle.demands.specs.Order.{as_sent}
use Rattle.demands.proofs.RoomsSay.{deliveries_stand, deliveries_counted}
use Rattle.demands.specs.Calls as calls
use Rattle.demands.specs.Calls.{table_step, Right}
use Rattle.demands.proofs.TableStays.{table_stays}

-- ---- refused calls

wrong_size : (deliver reply sender ours : List ℕ) (v : ℕ) (d : List ℕ) → first_number (message_checks free_table [] (length deliver) (length reply) sender ours v d) ≡ 1
unfolding first_number message_sizes free_table
wrong_size deliver reply sender ours v d = refl

refused_message_lem : (deliver reply sender ours : List ℕ) (v : ℕ) (d : List ℕ) (n : ℕ)
    → RefusedBy 1
    (λ why.
    (message_end (message_outcome free_table [] (length deliver) (length reply) sender ours v d n) deliver reply ≡ message_stands [] deliver reply why)
    × ((message_outcome free_table [] (length deliver) (length reply) sender ours v d n).table ≡ free_table))
refused_message_lem deliver reply sender ours v d n =
    rw (wrong_size deliver reply sender ours v d) at
    (message_leaves free_table [] deliver reply sender ours v d n (λ e. absurd (omega (arith, sym (wrong_size deliver reply sender ours v d) ∙ e))))

too_long_lem : first_number (elapsed_checks free_table 512 1001) ≡ 3
unfolding first_number elapsed_sizes free_table table_formed
too_long_lem = rw free_table_formed

refused_elapsed_lem : (cells : List ℕ) → length cells ≡ 512
    → RefusedBy 3
    (λ why.
    (elapsed_end (elapsed_outcome free_table (length cells) 1001) cells ≡ elapsed_stands cells why)
    × (passed_table (elapsed_outcome free_table (length cells) 1001) ≡ free_table))
refused_elapsed_lem cells l =
    let three : first_number (elapsed_checks free_table (length cells) 1001) ≡ 3 = rw l too_long_lem in
    rw three at (elapsed_leaves free_table cells 1001 (λ e. absurd (omega (arith, sym three ∙ e))))

nobody : first_number (leave_checks free_table 64 (replicate 16 0) 7 1) ≡ 6
unfolding first_number leave_sizes found named free_table table_formed
nobody = rw free_table_formed

refused_leave_lem : (reply : List ℕ) → length reply ≡ 64
    → RefusedBy 6
    (λ why.
    (leave_end (leave_outcome free_table (length reply) (replicate 16 0) 7 1) reply ≡ leave_stands reply why)
    × ((leave_outcome free_table (length reply) (replicate 16 0) 7 1).table ≡ free_table))
refused_leave_lem reply l =
    let six : first_number (leave_checks free_table (length reply) (replicate 16 0) 7 1) ≡ 6 = rw l nobody in
    rw six at (leave_leaves free_table reply (replicate 16 0) 7 1 (λ e. absurd (omega (arith, sym six ∙ e))))

-- ---- a call that moves one record

not_two : ◌≢◌ {A = Option ℕ} (Some 0) (Some 2)
not_two e = never (cc)

-- the second owner's Join makes record 0; record 2, with the first owner's channel, stands
join_leaves_two : Still (sample.table_of sample.free) (sample.held_of 0) 2
    (message_outcome (sample.table_of sample.free) (sample.held_of 0) deliver_size reply_size (sample.cid 3 4) (replicate 16 0) 4 sample.join_data 9)
join_leaves_two =
    message_frame (sample.state_of sample.free 0) (sample.joined_one).right 2 deliver_size reply_size (sample.cid 3 4) (replicate 16 0) 4 sample.join_data 9
    (subst (λ g. moved g ≢ Some 2) (sym (makes_with (sample.held_of 0) (sample.held_size_lem 0))) not_two)

-- ---- a call that delivers

abbrev brings : List ℕ → Outcome
brings held =
    message_outcome (sample.table_of sample.free) held deliver_size reply_size (sample.cid 1 2) (replicate 16 0) reliable_wrapper
    (sample.wrapper_data 11 (4 ∷ 5 ∷ 6 ∷ [])) 0

-- wrapper 11 comes and is delivered, and behind it 12, which was held
delivers_two : (held : List ℕ) → length held ≡ held_size
    → (brings held).delivered
    ≡ as_sent reliable_wrapper (sample.wrapper_data 11 (4 ∷ 5 ∷ 6 ∷ []))
    ∷ from_place held 2 0 (record { used = true; total = total 12; reliable = reliable 12; len = 3 })
    ∷ []
unfolding message_outcome message_sizes asked_of read_message readable length_of look message_of wrapper_of wrapper_asks found named same cid_at number
    wrapper_outcome plan_outcome stepped judged judged_by consistent distance taken heard farther placed next_one released release_from release_at next_held
    settled gapped closed acknowledged asked spared delivered_by
delivers_two held l = rw (l, (sample.joined_one).right.formed)

-- it is accepted, and the answer counts two
given_two : (held : List ℕ) → length held ≡ held_size → (brings held).given ≡ Ok (given.Wrapped 2 fate.Delivered 0 reply.Nothing)
unfolding message_outcome message_sizes asked_of read_message readable length_of look message_of wrapper_of wrapper_asks found named same cid_at number
    wrapper_outcome plan_outcome stepped judged judged_by consistent distance taken heard farther placed next_one released release_from release_at next_held
    settled gapped closed acknowledged asked spared
given_two held l = rw (l, (sample.joined_one).right.formed)

answers_two : (a : Messaged) × (messaged (brings (sample.held_of 0)) ≡ Ok a)
answers_two = (_, ap (messaged_as (brings (sample.held_of 0))) (given_two (sample.held_of 0) (sample.held_size_lem 0)))

counts_two : (answers_two.0).deliveries.count ≡ 2
counts_two =
    deliveries_counted (sample.state_of sample.free 0) (sample.joined_one).right deliver_size reply_size (sample.cid 1 2) (replicate 16 0) reliable_wrapper
    (sample.wrapper_data 11 (4 ∷ 5 ∷ 6 ∷ [])) 0 answers_two.0 answers_two.1
    ∙ ap length (delivers_two (sample.held_of 0) (sample.held_size_lem 0))

-- the contents of 11 are read in the first cell, whatever lay there
first_cell : (room : List ℕ) → length room ≡ deliver_size → part (deliver_after (brings (sample.held_of 0)) room) (0 * most_contents) 3 ≡ 4 ∷ 5 ∷ 6 ∷ []
first_cell room l =
    let out = brings (sample.held_of 0) in
    let two = delivers_two (sample.held_of 0) (sample.held_size_lem 0) in
    subst
    (λ (ds : List Delivered).
    part (deliver_after out room) (0 * most_contents) (get_or ds 0 (as_sent 0 [])).delivery.len ≡ (get_or ds 0 (as_sent 0 [])).contents)
    two
    (deliveries_stand (sample.state_of sample.free 0) (sample.joined_one).right deliver_size reply_size (sample.cid 1 2) (replicate 16 0) reliable_wrapper
    (sample.wrapper_data 11 (4 ∷ 5 ∷ 6 ∷ [])) 0 room (as_sent 0 []) 0 l (rw two (lit< tt)))

-- ---- a call that keeps the table well formed

stays_right : Right (table_step (sample.state_of sample.free 0) (calls.elapsed 512 20)).state
stays_right = table_stays (sample.state_of sample.free 0) (calls.elapsed 512 20) (sample.joined_one).right tt
