-- When a record is well formed (01, "One channel", its last paragraph). That used records differ in owner and channel is the table's part.
pub use Rattle.message.specs.Lengths.{most_contents}
use Rattle.std.specs.Prelude.{◌*◌, Bool, true, cond, not, ◌&&◌, List, [], ◌∷◌, ltb, leb, eqb, pos}
use Rattle.std.specs.Int.Signed.{le_z}
use Rattle.std.specs.List.{list_all}
use Rattle.counter.specs.Distance.{distance}
use Rattle.counter.specs.declared.Reliable.{Reliable}
use Rattle.record.specs.Profile.{nak_timeout, max_retries}
use Rattle.record.specs.Legal.{legal_names, legal_parameters}
use Rattle.record.specs.declared.Gap.{Gap}
use Rattle.record.specs.declared.Gap.TheVariants as gap
use Rattle.record.specs.declared.Place.{Place}
use Rattle.record.specs.declared.Terms.{Terms}
use Rattle.record.specs.declared.Record.{Record}

-- a held number is two or more ahead of R and not past K, with contents of at most 1,454 octets
unfoldable pub held_right : Reliable → Reliable → Place → Bool
held_right r k p =
    cond p.used
    (le_z (pos 2) (distance r.0 p.reliable.0)
    && le_z (distance r.0 p.reliable.0) (distance r.0 k.0)
    && leb p.len most_contents)
    true

-- no two places hold the same number
unfoldable pub apart : Place → Place → Bool
apart p q = not (p.used && q.used && eqb p.reliable.0 q.reliable.0)

unfoldable pub apart_from : Place → List Place → Bool
apart_from p qs = list_all (apart p) qs

unfoldable pub held_apart : List Place → Bool
held_apart [] = true
held_apart (p ∷ ps) = apart_from p ps && held_apart ps

unfoldable pub held_all_right : Reliable → Reliable → List Place → Bool
held_all_right r k ps = list_all (held_right r k) ps

-- there is no gap: everything that is known to be sent was processed
unfoldable pub closed : Record → Bool
closed r = eqb r.known.0 r.reliable.0

-- the phase is quiet exactly without a gap (it then has neither count nor time); else it is a standoff or a wait within its bounds
unfoldable pub gap_right : Gap → Bool → Terms → Bool
gap_right gap.Quiet shut t = shut
gap_right (gap.Standoff left count) shut t = not shut && ltb count max_retries && leb left t.maxwait
gap_right (gap.Waiting left count) shut t = not shut && leb 1 count && leb count max_retries && leb left (nak_timeout t.expiry)

-- the fields that Joining accepts, and a nonzero reciprocal number
unfoldable pub terms_right : Terms → Bool
terms_right t = legal_names t.channel t.mid && legal_parameters t.modulus t.expiry && not (eqb t.reciprocal 0)

-- of a free record nothing is asked
unfoldable pub well_formed : Record → Bool
well_formed r =
    cond r.used
    (terms_right r.terms
    && le_z (pos 0) (distance r.reliable.0 r.known.0)
    && held_all_right r.reliable r.known r.places
    && held_apart r.places
    && gap_right r.gap (closed r) r.terms
    && ltb r.idle (r.terms.expiry * 1000))
    true
