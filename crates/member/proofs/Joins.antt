-- What the calls of a Join come to together, over plain variables. Assumes nothing.
use Prim.Native.Nat.{ℕ}
use mathlib.Core.Bool.{Bool}
use mathlib.Core.List.{List, []}
use mathlib.Core.Path.{◌≡◌}
use lib.ListN.{length}
use Rattle.std.specs.Prelude.{Option, is_some, Result, Ok}
use Rattle.refusal.specs.declared.Refusal.{Refusal}
use Rattle.octets.specs.Octets.{splice}
use Rattle.message.specs.declared.Cid.{Cid}
use Rattle.message.specs.declared.Join.{Join}
use Rattle.record.specs.declared.Record.{Record}
use Rattle.joining.specs.Joining.{decided}
use Rattle.joining.specs.declared.Existing.{Existing}
use Rattle.joining.specs.declared.Decision.{Decision}
use Rattle.table.specs.Table.{found, lowest_free}
use Rattle.sending.specs.Sent.{join_reply_of}
use Rattle.carry.specs.Carried.{no_deliveries, listed}
use Rattle.carry.specs.declared.Deliveries.{Deliveries}
use Rattle.member.specs.Messages.{existing_at, joined_at, table_after, join_outcome, messaged, reply_after}
use Rattle.member.specs.declared.Given.TheVariants as given
use Rattle.member.specs.declared.Messaged.{Messaged}

-- the answers of its calls in turn, and the reply room before and after
pub join_done_lem : (ts : List Record) (s : Cid) (j : Join) (n : ℕ) (known free : Option ℕ) (x : Option Existing) (b : Bool) (d : Decision)
    (after : List Record) (k : ℕ) (none : Deliveries) (at : Option ℕ) (room last : List ℕ)
    → known ≡ found s j.channel ts → free ≡ lowest_free ts → x ≡ existing_at ts known → b ≡ is_some free → d ≡ decided j x n b
    → after ≡ table_after ts s j n d free → (k ≡ length (join_reply_of s j n d)) × (last ≡ splice room 0 (join_reply_of s j n d))
    → none ≡ no_deliveries → at ≡ joined_at d known free
    → (◌≡◌ {A = Result Messaged Refusal} (Ok (record { table = after; given = given.Joined at d; deliveries = none; reply = k }))
    (messaged (join_outcome ts [] s j n)))
    × (last ≡ reply_after (join_outcome ts [] s j n) room)
unfolding join_outcome listed
join_done_lem ts s j n known free x b d after k none at room last e f g h i l q u v =
    (rw (q.0, u, v, l, i, g, h, e, f), rw (i, g, h, e, f) at q.1)
