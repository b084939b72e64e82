-- The table of eight records (01, "Room", "Refusal numbers" and the end of "One channel"): which record has an owner and channel, which one is
-- free, and when the whole table is well formed.
use Rattle.std.specs.Prelude.{ℕ, Bool, true, false, not, ◌&&◌, List, [], ◌∷◌, Option, position, get_or, replicate, eqb}
use Rattle.message.specs.declared.Cid.{Cid}
use Rattle.record.specs.Places.{no_place}
use Rattle.record.specs.WellFormed.{well_formed}
use Rattle.record.specs.declared.Gap.TheVariants as gap
use Rattle.record.specs.declared.Place.{Place}
use Rattle.record.specs.declared.Terms.{Terms}
use Rattle.record.specs.declared.Record.{Record}

-- two CIDs are the same
unfoldable pub same : Cid → Cid → Bool
same a b = eqb a.high b.high && eqb a.low b.low

-- the record has this owner and channel. A free one has none, whatever it keeps
unfoldable pub named : Cid → ℕ → Record → Bool
named owner channel r = r.used && same r.terms.owner owner && eqb r.terms.channel channel

-- the record of this owner and channel
unfoldable pub found : Cid → ℕ → List Record → Option ℕ
found owner channel rs = position (named owner channel) rs

abbrev pub is_free : Record → Bool
is_free r = not r.used

-- the lowest free record
unfoldable pub lowest_free : List Record → Option ℕ
lowest_free rs = position is_free rs

-- if r is used, s has not its owner and channel
abbrev pub apart : Record → Record → Bool
apart r s = not (r.used && named r.terms.owner r.terms.channel s)

-- if r is used, none of these records has its owner and channel
unfoldable pub differs : Record → List Record → Bool
differs r [] = true
differs r (s ∷ ss) = apart r s && differs r ss

-- each record is well formed by itself, and used ones differ in owner and channel
unfoldable pub table_formed : List Record → Bool
table_formed [] = true
table_formed (r ∷ rs) = well_formed r && differs r rs && table_formed rs

-- ---- eight free records: the table before any Join

abbrev pub blank_terms : Terms
blank_terms =
    record {
      owner = record { high = 0; low = 0 };
      channel = 0;
      mid = 0;
      reciprocal = 0;
      expiry = 0;
      outbound = false;
      holdoff = 0;
      modulus = 0;
      maxwait = 0;
    }

-- a free record with every number 0, and these places
abbrev pub blank : List Place → Record
blank ps =
    record {
      used = false;
      terms = blank_terms;
      total = record { 0 = 0 };
      reliable = record { 0 = 0 };
      known = record { 0 = 0 };
      acked = record { 0 = 0 };
      idle = 0;
      gap = gap.Quiet;
      places = ps;
    }

-- eight free records
unfoldable pub free_table : List Record
free_table = replicate 8 (blank (replicate 4 no_place))

-- ---- a record by its place

-- record i. Past the end of the table a free record is read, with no places: so it is fixed by the logic what is read there, though no code reads there
abbrev pub record_at : List Record → ℕ → Record
record_at ts i = get_or ts i (blank [])
