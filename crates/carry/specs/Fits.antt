-- What a plan has to be so that it can be carried out in the lent octets (01, "Room"). Every plan of a well-formed record is so (proofs/PlanFits.antt).
use Rattle.std.specs.Prelude.{ℕ, ◌<◌, ◌≤◌, ◌≡◌, get_or}
use Rattle.record.specs.Places.{place_at}
use Rattle.record.specs.WellFormed.{most_contents}
use Rattle.wrapper.specs.declared.Fate.TheVariants as fate
use Rattle.wrapper.specs.declared.Plan.{Plan}

-- the places that it names are of the record's four, and what it delivers from them fits a cell
pub record Fits (p : Plan) : Type 0 where
  pub count : p.count ≤ 4
  pub place : (j : ℕ) → p.fate ≡ fate.Held j → j < 4
  pub order : (k : ℕ) → k < p.count → get_or p.order k 0 < 4
  pub contents : (k : ℕ) → k < p.count → (place_at p.after.places (get_or p.order k 0)).len ≤ most_contents
