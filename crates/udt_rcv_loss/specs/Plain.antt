-- How ranges are counted in a plain list of packets.
use Rattle.std.specs.Prelude.{◌+◌, ◌==◌, ◌&&◌, Bool, false, List, [], ◌∷◌}
use Rattle.udt_model.specs.Losses.{Missing}

-- the first packet is followed by the next offset with the same report
abbrev pub goes_on : List Missing → Bool
goes_on [] = false
goes_on (m ∷ []) = false
goes_on (m ∷ n ∷ ms) = n.offset == m.offset + 1 && n.reported == m.reported && n.wait == m.wait
