-- A record's four places by their number (01, "Room" and "One channel", held wrappers).
use Rattle.std.specs.Prelude.{ℕ, false, List, get_or}
use Rattle.record.specs.declared.Place.{Place}

-- a free place with every number 0
abbrev pub no_place : Place
no_place = record { used = false; total = record { 0 = 0 }; reliable = record { 0 = 0 }; len = 0 }

-- place j of these places. Past the last one a free place is read, so that what is said of used places asks no bound of j
abbrev pub place_at : List Place → ℕ → Place
place_at ps j = get_or ps j no_place
