-- What a Join is answered (01, "Joining"): j is the Join, e what the table has for its owner and channel, n the caller's reciprocal number,
-- and `free` says whether a record is free.
use Rattle.std.specs.Prelude.{ℕ, ◌%◌, ◌/◌, Bool, true, cond, ◌&&◌, map, eqb, Option, Some, None}
use Rattle.message.specs.declared.Cid.{Cid}
use Rattle.message.specs.declared.Parameters.{Parameters}
use Rattle.message.specs.declared.Address.{Address}
use Rattle.message.specs.declared.Address.TheVariants as address
use Rattle.message.specs.declared.Join.{Join}
use Rattle.record.specs.Legal.{legal_names, legal_parameters}
use Rattle.record.specs.With.{free_place}
use Rattle.record.specs.declared.Gap.TheVariants as gap
use Rattle.record.specs.declared.Record.{Record}
use Rattle.record.specs.Reasons.{illegal_parameters, low_resources, already_member, bad_address, no_reciprocal}
use Rattle.joining.specs.declared.Existing.{Existing}
use Rattle.joining.specs.declared.Decision.{Decision}
use Rattle.joining.specs.declared.Decision.TheVariants as decision

-- the parameters of a Join whose address is supported: modulus and expiry legal, and no reserved bit set beside N
unfoldable pub legal_block : Parameters → Bool
legal_block p = legal_parameters p.modulus p.expiry && eqb (p.flags % 128) 0

-- of a Join whose address type is not supported the parameters are not known
abbrev pub legal_address : Address → Bool
legal_address (address.Null p) = legal_block p
legal_address (address.Ipv4 e p) = legal_block p
legal_address (address.Other t) = true

unfoldable pub legal : Join → Bool
legal j = legal_names j.channel j.mid && legal_address j.address

-- what the table has for a Join if r is the record of its owner and channel
abbrev pub existing_of : Record → Existing
existing_of r = record { mid = r.terms.mid; reliable = r.reliable; reciprocal = r.terms.reciprocal }

-- the channel has no record yet: a reciprocal number is needed, and then a free record
unfoldable pub decide_new : Parameters → ℕ → Bool → Decision
decide_new p n free =
    cond (eqb n 0) (decision.Refuse no_reciprocal)
    (cond free (decision.Make p) (decision.Refuse low_resources))

-- the channel has a record: for the same member it is accepted again, with what the record has; another MID is refused
abbrev pub decide_for : Option Existing → ℕ → Parameters → ℕ → Bool → Decision
decide_for (Some e) asked p n free =
    cond (eqb e.mid asked) (decision.Again e.reliable e.reciprocal) (decision.Refuse already_member)
decide_for None asked p n free = decide_new p n free

abbrev pub decide_at : Address → Option Existing → ℕ → ℕ → Bool → Decision
decide_at (address.Null p) e asked n free = decide_for e asked p n free
decide_at (address.Ipv4 a p) e asked n free = decide_for e asked p n free
decide_at (address.Other t) e asked n free = decision.Refuse bad_address

unfoldable pub decided : Join → Option Existing → ℕ → Bool → Decision
decided j e n free =
    cond (legal j) (decide_at j.address e j.mid n free) (decision.Refuse illegal_parameters)

-- ---- the new record

-- the record that a Join makes of the free one `old`; p are its parameters (those that `Make` carries) and n the reciprocal number
unfoldable pub new_record : Record → Cid → Join → Parameters → ℕ → Record
new_record old owner j p n =
    record {
      used = true;
      terms =
          record {
            owner = owner;
            channel = j.channel;
            mid = j.mid;
            reciprocal = n;
            expiry = p.expiry;
            outbound = eqb (p.flags / 128) 1;
            holdoff = p.holdoff;
            modulus = p.modulus;
            maxwait = p.maxwait;
          };
      total = j.total;
      reliable = j.reliable;
      known = j.reliable;
      acked = j.reliable;
      idle = 0;
      gap = gap.Quiet;
      places = map free_place old.places;
    }
