-- The messages that a member sends about a channel (01, "Joining" and "One channel"), as values.
use Rattle.std.specs.Prelude.{ℕ}
use Rattle.counter.specs.declared.Reliable.{Reliable}
use Rattle.message.specs.declared.Cid.{Cid}
use Rattle.message.specs.declared.Membership.{Membership}
use Rattle.message.specs.declared.Join.{Join}
use Rattle.message.specs.declared.Message.{Message}
use Rattle.message.specs.declared.Message.TheVariants as message
use Rattle.record.specs.declared.Terms.{Terms}

-- the member of a record, at a reliable number
unfoldable pub member_at : Terms → Reliable → Membership
member_at t r = record { leader = t.owner; channel = t.channel; mid = t.mid; reliable = r }

-- the member that a Join asks for, at the Join's reliable number or another
unfoldable pub asked_at : Cid → Join → Reliable → Membership
asked_at owner j r = record { leader = owner; channel = j.channel; mid = j.mid; reliable = r }

-- a Join Refuse carries the Join's own channel, MID and reliable number, and the reason
unfoldable pub join_refuse_of : Cid → Join → ℕ → Message
join_refuse_of owner j reason = message.JoinRefuse (asked_at owner j j.reliable) reason

-- a Join Accept carries the last reliable number processed and the channel on which we answer
unfoldable pub acceptance : Cid → Join → Reliable → ℕ → Message
acceptance owner j r reciprocal = message.JoinAccept (asked_at owner j r) reciprocal

-- a Leaving carries R, the last reliable number processed, and the reason
unfoldable pub departure : Terms → Reliable → ℕ → Message
departure t r reason = message.Leaving (member_at t r) reason

-- a NAK carries R and asks for the numbers from `first` to `last`
unfoldable pub missing : Terms → Reliable → Reliable → Reliable → Message
missing t r first last = message.Nak (member_at t r) first last
