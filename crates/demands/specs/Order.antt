-- What is said of a channel over a whole run: the order of its deliveries and where they come from (01, "One channel", steps 1, 3 and 4), what its NAKs ask for, and the
-- time that passes ("A gap ends").
use Rattle.std.specs.Prelude.{ℕ, zero, suc, ◌+◌, ◌*◌, Bool, true, false, cond, not, ◌||◌, List, [], ◌∷◌, ◌++◌, Some, Ok, ◌≡◌, eqb, pos, length, get_or}
use Rattle.std.specs.Int.Signed.{le_z}
use Rattle.counter.specs.Distance.{distance}
use Rattle.counter.specs.Steps.{next}
use Rattle.counter.specs.declared.Total.{Total}
use Rattle.counter.specs.declared.Reliable.{Reliable}
use Rattle.message.specs.Lengths.{reliable_wrapper}
use Rattle.message.specs.Layouts.{cid_at, wrapper_of, join_of}
use Rattle.message.specs.Reading.{contents}
use Rattle.message.specs.declared.Cid.{Cid}
use Rattle.message.specs.declared.Join.{Join}
use Rattle.message.specs.declared.Parameters.{Parameters}
use Rattle.record.specs.Profile.{nak_timeout, max_retries}
use Rattle.record.specs.WellFormed.{closed}
use Rattle.record.specs.declared.Terms.{Terms}
use Rattle.gap.specs.Range.{nak_first, nak_last, OnlyMissing}
use Rattle.gap.specs.declared.Event.TheVariants as event
use Rattle.record.specs.Places.{no_place}
use Rattle.joining.specs.declared.Decision.TheVariants as decision
use Rattle.carry.specs.Carried.{Delivered, from_place}
use Rattle.member.specs.Messages.{message_outcome}
use Rattle.member.specs.declared.Given.TheVariants as given
use Rattle.demands.specs.Runs.{Came}
use Rattle.demands.specs.Calls as calls
use Rattle.demands.specs.Calls.{Call, State}
use Rattle.demands.specs.Refusals.{is_wrapper}
use Rattle.demands.specs.Channel.{Channel, Told, refused, wrapped, joined, passed, left}

-- ---- deliveries

-- what one of the channel's own calls delivers
abbrev pub delivered_in : Told → List Delivered
delivered_in (refused why) = []
delivered_in (wrapped fate thrown ds reply) = ds
delivered_in (joined d reply) = []
delivered_in (passed e sent) = []
delivered_in (left reply) = []

-- all that a run delivers, in order
unfoldable pub delivered_all : List (Came Channel Told) → List Delivered
delivered_all [] = []
delivered_all (m ∷ ms) = delivered_in m.answer ++ delivered_all ms

-- in turn from T = t and R = n: each reliable one carries the reliable number after the last delivered, each unreliable one the same number, and
-- every total lies at distance 1 or more from the one before
unfoldable pub InTurn : Total → Reliable → List Delivered → Type 0
InTurn t n [] = Unit {0}
InTurn t n (x ∷ xs) =
    (distance n.0 x.delivery.reliable.0 ≡ pos (cond x.delivery.reliably 1 0))
    × (le_z (pos 1) (distance t.0 x.delivery.total.0) ≡ true)
    × InTurn x.delivery.total x.delivery.reliable xs

-- the reliable numbers of the reliable ones, in order
unfoldable pub reliable_numbers : List Delivered → List ℕ
reliable_numbers [] = []
reliable_numbers (x ∷ xs) = cond x.delivery.reliably (x.delivery.reliable.0 ∷ reliable_numbers xs) (reliable_numbers xs)

-- the k numbers after n: one added each time, turning past zero
unfoldable pub following : ℕ → ℕ → List ℕ
following n zero = []
following n (suc k) = next n ∷ following (next n) k

-- ---- where deliveries come from

-- the wrapper that a call brings, as it is delivered
abbrev pub as_sent : ℕ → List ℕ → Delivered
as_sent v d =
    record {
      delivery =
          record {
            reliably = eqb v reliable_wrapper;
            total = (wrapper_of d).total;
            reliable = (wrapper_of d).reliable;
            len = length (contents d);
          };
      contents = contents d;
    }

-- the call was not refused
abbrev pub accepted : Told → Bool
accepted (refused why) = false
accepted (wrapped fate thrown ds reply) = true
accepted (joined d reply) = true
accepted (passed e sent) = true
accepted (left reply) = true

-- x was brought by one of the channel's own calls cs, and that call was accepted: ms is what a run shows of these calls, one after the other
pub data BroughtBy (x : Delivered) : List Call → List (Came Channel Told) → Type 0 where
  here : {held deliver reply : ℕ} {sender ours : List ℕ} {v : ℕ} {d : List ℕ} {n : ℕ} {cs : List Call} {m : Came Channel Told} {ms : List (Came Channel Told)}
      → is_wrapper v ≡ true → x ≡ as_sent v d → accepted m.answer ≡ true
      → BroughtBy x (calls.message held deliver reply sender ours v d n ∷ cs) (m ∷ ms)
  later : {c : Call} {cs : List Call} {m : Came Channel Told} {ms : List (Came Channel Told)} → BroughtBy x cs ms → BroughtBy x (c ∷ cs) (m ∷ ms)

-- x was brought by one of these calls, or the channel h holds it in one of its places
pub data From (h : Channel) (cs : List Call) (ms : List (Came Channel Told)) (x : Delivered) : Type 0 where
  received : BroughtBy x cs ms → From h cs ms x
  kept : (j : ℕ) → (get_or h.at.places j no_place).used ≡ true → x ≡ from_place h.held 0 j (get_or h.at.places j no_place) → From h cs ms x

-- the call c is a Join j of this owner for this channel, and it makes record i
pub data Makes (s : State) : Call → ℕ → Cid → ℕ → Join → Type 0 where
  makes : (held deliver reply : ℕ) (sender ours : List ℕ) (v : ℕ) (d : List ℕ) (n i : ℕ) (p : Parameters)
      → (message_outcome s.table (calls.lent_as held s.held) deliver reply sender ours v d n).given ≡ Ok (given.Joined (Some i) (decision.Make p))
      → Makes s (calls.message held deliver reply sender ours v d n) i (cid_at sender 0) (join_of d).channel (join_of d)

-- ---- what is asked for

-- a NAK carries R and asks for the range that the definition gives, from R + 1 to one before the nearest held number or to K; it goes outbound if the channel asks for
-- that; and the range is as `OnlyMissing` says: it names nothing that is held. R, K and the held wrappers are the channel's when the NAK is sent
abbrev pub NakRight : Came Channel Told → Type 0
NakRight m =
    (n first last : Reliable) (outbound : Bool) (octets : List ℕ) → m.answer ≡ passed (event.Nak n first last outbound) octets
    → (n ≡ m.state.at.reliable)
    × (first ≡ nak_first m.state.at)
    × (last ≡ nak_last m.state.at)
    × (outbound ≡ m.state.at.terms.outbound)
    × OnlyMissing m.state.at.reliable.0 m.state.at.known.0 m.state.at.places first.0 last.0

-- ---- time

-- the channel is without a gap, or left
abbrev pub over : Channel → Bool
over h = not h.at.used || closed h.at

unfoldable pub ever_over : List (Came Channel Told) → Bool
ever_over [] = false
ever_over (m ∷ ms) = over m.state || ever_over ms

abbrev pub time_of : Call → ℕ
time_of (calls.message held deliver reply sender ours v d n) = 0
time_of (calls.elapsed cells ms) = ms
time_of (calls.leave reply owner channel reason) = 0

-- the milliseconds that pass in these calls
unfoldable pub time_in : List Call → ℕ
time_in [] = 0
time_in (c ∷ cs) = time_of c + time_in cs

-- 01's bound on a gap
unfoldable pub bound : Terms → ℕ
bound t = max_retries * (t.maxwait + nak_timeout t.expiry + 2000)
