-- The examples P 1 to 14 of 01 as one table over the definitions, under one statement (`examples`) that the checker computes.
use mathlib.Core.Path.{◌≡◌, refl}
use mathlib.Core.List.{map}
use Rattle.octets.specs.Octets.{number}
use Rattle.counter.specs.Distance.{distance}
use Rattle.block.specs.Pdu.{head_size, fields, size_at, lacks_flag, left_over, malformed, found_at, pdu_at}
use Rattle.block.specs.Block.{parse_from, parse, asked, read_block}
use Rattle.message.specs.Lengths.{look, length_of}
use Rattle.message.specs.Reading.{readable, fixed_of, message_of, read_message}
use Rattle.record.specs.WellFormed.{closed}
use Rattle.gap.specs.Standoff.{standoff, standoff_of}
use Rattle.wrapper.specs.Judge.{consistent, judged_by, judged, farther, heard}
use Rattle.wrapper.specs.Hold.{next_one, holds, lowest_free, place_for, placed}
use Rattle.wrapper.specs.Release.{next_held, release_at, release_from, released}
use Rattle.wrapper.specs.Settle as settle
use Rattle.wrapper.specs.Settle.{lost, gapped, spared, acknowledged, settled}
use Rattle.wrapper.specs.Taken.{taken, stepped}
use Rattle.demands.specs.Examples.{comes_of, table}

-- what the definitions give is what 01 says, row by row
pub examples : map (λ row. comes_of row.given) table ≡ map (λ row. row.gives) table
unfolding number head_size fields size_at lacks_flag left_over malformed found_at pdu_at parse_from parse asked read_block
    look length_of readable fixed_of message_of read_message distance closed standoff standoff_of consistent judged_by judged farther heard
    next_one holds lowest_free place_for placed next_held release_at release_from released lost gapped settle.asked spared acknowledged settled taken stepped
examples = refl
