-- One channel by itself (demand 3 of the order: "what demand 2's definition gives for those steps alone"): the record of an owner and a channel with the octets of its four
-- places, which calls are its own, and what they do to it. Every step is that of one channel (`stepped`, `elapsed_of`, `decided`, `freed`), with its octets held,
-- delivered and sent as the calls over the table do it; no other record and no search plays a part.
use Rattle.std.specs.Prelude.{ℕ, ◌*◌, Bool, true, cond, not, ◌&&◌, ◌||◌, List, [], Some, Result, Ok, Err, ltb, eqb, length, get_or}
use Rattle.octets.specs.Octets.{part}
use Rattle.message.specs.Lengths.{reliable_wrapper, join}
use Rattle.message.specs.Layouts.{cid_at, wrapper_of, join_of}
use Rattle.message.specs.Reading.{readable, contents}
use Rattle.message.specs.declared.Cid.{Cid}
use Rattle.message.specs.declared.Join.{Join}
use Rattle.record.specs.Reasons.{leaving_reason}
use Rattle.record.specs.With.{freed}
use Rattle.record.specs.WellFormed.{most_contents}
use Rattle.record.specs.declared.Record.{Record}
use Rattle.refusal.specs.declared.Refusal.{Refusal}
use Rattle.refusal.specs.declared.Refusal.TheVariants as refusal
use Rattle.gap.specs.Elapsed.{gives, elapsed_of}
use Rattle.gap.specs.declared.Event.{Event}
use Rattle.gap.specs.declared.Event.TheVariants as event
use Rattle.gap.specs.declared.Elapsed.{Elapsed}
use Rattle.wrapper.specs.Taken.{stepped}
use Rattle.wrapper.specs.declared.Arrived.{Arrived}
use Rattle.wrapper.specs.declared.Fate.{Fate}
use Rattle.wrapper.specs.declared.Plan.{Plan}
use Rattle.joining.specs.Joining.{existing_of, decided}
use Rattle.joining.specs.Replies.{departure}
use Rattle.joining.specs.declared.Decision.{Decision}
use Rattle.table.specs.Table.{same, record_at, blank}
use Rattle.sending.specs.Sent.{sent_of, reply_of, event_of, join_reply_of}
use Rattle.carry.specs.Carried.{Delivered, place_begins, held_after, delivered_by}
use Rattle.asking.specs.Asking.{arrived_of}
use Rattle.member.specs.Sizes.{message_sizes, elapsed_sizes, leave_sizes, table_size, cid_size}
use Rattle.member.specs.Elapsing.{longest, Passing, sent_by}
use Rattle.member.specs.declared.Given.{Given}
use Rattle.member.specs.declared.Given.TheVariants as given
use Rattle.demands.specs.Runs.{Came}
use Rattle.demands.specs.Calls as calls
use Rattle.demands.specs.Calls.{Call, State}
use Rattle.demands.specs.Refusals.{is_wrapper}

-- ---- whose calls

-- a message that can be read and names this channel: a wrapper on it, or a Join for it. Whatever else has the channel in its data is refused, by 4 or
-- 5, and moves nothing; so it counts among the other calls
unfoldable pub names : ℕ → ℕ → List ℕ → Bool
names channel v d =
    readable v d
    && ((is_wrapper v && eqb (wrapper_of d).channel channel) || (eqb v join && eqb (join_of d).channel channel))

-- 16 octets that are this CID
unfoldable pub is_cid : Cid → List ℕ → Bool
is_cid cid s = eqb (length s) cid_size && same (cid_at s 0) cid

-- a channel's own calls: messages from its owner and leave calls that name it, and the elapsed times that are accepted
unfoldable pub own : Cid → ℕ → Call → Bool
own owner channel (calls.message held deliver reply sender ours v d n) = is_cid owner sender && names channel v d
own owner channel (calls.elapsed cells ms) = elapsed_sizes table_size cells && not (ltb longest ms)
own owner channel (calls.leave reply sender named reason) = is_cid owner sender && eqb named channel

-- ---- what a channel does

-- the record of the channel, and the octets of its four places
pub record Channel : Type 0 where
  pub at : Record
  pub held : List ℕ

-- what its own calls answer it
pub data Told : Type 0 where
  refused : Refusal → Told
  -- a wrapper's fate, how many held ones were thrown out, what is delivered, and the octets of the reply
  wrapped : Fate → ℕ → List Delivered → List ℕ → Told
  joined : Decision → List ℕ → Told
  -- what elapsed time makes it send, and the octets in its cell
  passed : Event → List ℕ → Told
  left : List ℕ → Told

abbrev pub stays : Channel → Told → Came Channel Told
stays h t = record { state = h; answer = t }

-- the plan for a wrapper with contents c, over the octets of the channel's own places
unfoldable pub planned : Channel → Arrived → List ℕ → Plan → Came Channel Told
planned h w c p =
    record {
      state = record { at = p.after; held = held_after 0 p.fate c h.held };
      answer = wrapped p.fate p.thrown (delivered_by h.held 0 w c p) (reply_of p.after.terms p.reply);
    }

abbrev pub by_step : Channel → Arrived → List ℕ → Result Plan Refusal → Came Channel Told
by_step h w c (Ok p) = planned h w c p
by_step h w c (Err why) = stays h (refused why)

-- a wrapper on it: 7, then its step
unfoldable pub wrapper_on : Channel → ℕ → List ℕ → Came Channel Told
wrapper_on h v d =
    cond (ltb most_contents (length (contents d))) (stays h (refused refusal.ContentsOver))
    (by_step h (arrived_of (eqb v reliable_wrapper) (wrapper_of d) (length (contents d))) (contents d)
    (stepped h.at (arrived_of (eqb v reliable_wrapper) (wrapper_of d) (length (contents d)))))

-- a Join for it while it is joined: 5 if it is meant for another component; else an answer from the record, which stands. Whether the table has
-- a free record plays no part for a channel that has one
unfoldable pub join_on : Channel → Cid → List ℕ → Join → ℕ → Came Channel Told
join_on h owner ours j n =
    cond (same j.cid (cid_at ours 0))
    (stays h (joined (decided j (Some (existing_of h.at)) n true) (join_reply_of owner j n (decided j (Some (existing_of h.at)) n true))))
    (stays h (refused refusal.NotForUs))

unfoldable pub elapsed_on : Channel → ℕ → Came Channel Told
elapsed_on h ms =
    record {
      state = record { at = (elapsed_of h.at ms).after; held = h.held };
      answer = passed (elapsed_of h.at ms).event (event_of (elapsed_of h.at ms).after.terms (elapsed_of h.at ms).event);
    }

-- 10, or Leaving
unfoldable pub leave_on : Channel → ℕ → Came Channel Told
leave_on h reason =
    cond (leaving_reason reason)
    (record {
      state = record { at = freed h.at; held = h.held };
      answer = left (sent_of (departure h.at.terms h.at.reliable reason));
    })
    (stays h (refused refusal.WrongReason))

-- the channel of this owner by itself, for one of its own calls. 1 is judged by the sizes lent; the table is well formed, so 2 is not given
unfoldable pub one : Cid → Channel → Call → Came Channel Told
one owner h (calls.message held deliver reply sender ours v d n) =
    cond (message_sizes table_size held deliver reply (length sender) (length ours))
    (cond (is_wrapper v) (wrapper_on h v d) (join_on h owner ours (join_of d) n))
    (stays h (refused refusal.WrongSize))
one owner h (calls.elapsed cells ms) = elapsed_on h ms
one owner h (calls.leave reply sender named reason) =
    cond (leave_sizes table_size reply (length sender)) (leave_on h reason) (stays h (refused refusal.WrongSize))

-- it is live as long as its record is used
abbrev pub live : Channel → Bool
live h = h.at.used

-- ---- what a call over the table shows of the channel in record i

abbrev pub places_size : ℕ
places_size = 4 * most_contents

-- the octets of record i's four places, within all held octets
abbrev pub slab : ℕ → List ℕ → List ℕ
slab i held = part held (place_begins i 0) places_size

unfoldable pub channel_at : ℕ → State → Channel
channel_at i s = record { at = record_at s.table i; held = slab i s.held }

abbrev pub told_given : Given → List Delivered → List ℕ → Told
told_given (given.Joined at decision) delivered reply = joined decision reply
told_given (given.Wrapped at fate thrown sent) delivered reply = wrapped fate thrown delivered reply

-- a refusal is told as it is, and what is given as `tells` says
abbrev pub told_by_result : {A : Type 0} → Result A Refusal → (A → Told) → Told
told_by_result (Ok given) tells = tells given
told_by_result (Err why) tells = refused why

-- the record's own part of an elapsed call
abbrev pub entry_at : Passing → ℕ → Elapsed
entry_at p i = get_or p.each i (gives (blank []) event.Nothing)

abbrev pub told_by : ℕ → calls.Answer → Told
told_by i (calls.message out) = told_by_result out.given (λ g. told_given g out.delivered out.reply)
told_by i (calls.elapsed p) = told_by_result p.given (λ done. passed (entry_at p i).event (sent_by (entry_at p i)))
told_by i (calls.leave p) = told_by_result p.given (λ at. left p.reply)

unfoldable pub view_at : ℕ → Came State calls.Answer → Came Channel Told
view_at i m = record { state = channel_at i m.state; answer = told_by i m.answer }
