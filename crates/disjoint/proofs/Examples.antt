-- The answer on small networks, by computation: document 01's two networks (card k among them), a ring with a switch that has no link, and a
-- network whose first walk has to be led another way; and what is told and left of a slice.
use mathlib.Core.Path.{◌≡◌, refl}
use mathlib.Core.List.{List, [], ◌∷◌}
use lib.ListN.{replicate}
use Rattle.mondschein.specs.Network.{low, any, Network, size, former, latter, joins, joined, link_of}
use Rattle.mondschein.specs.Order.{walk_by}
use Rattle.mondschein.specs.Routes.{switch, link}
use Rattle.network.specs.Load.{network_of}
use Rattle.network.specs.Index.{far_end}
use Rattle.rows.specs.Rows.{assigned}
use Rattle.disjoint.specs.Paths.{Routes, walks, parted}
use Rattle.disjoint.specs.Replies.{counts, things, Told, refusing, wrong_pair, routes_into}
use Rattle.disjoint.specs.Matching.{lowest, path_of, usable, left, entered, leaving, enter, leave_by, leave, turns, augment, up_from, explore, matched, tries, answer_by, routes_of}

-- the first network of document 01
four : Network
four = network_of 4 (0 ∷ 1 ∷ 0 ∷ 2 ∷ 0 ∷ 3 ∷ 1 ∷ 2 ∷ 1 ∷ 3 ∷ 2 ∷ 3 ∷ []) 0 1 3

-- the network of card k
six : Network
six = network_of 6 (0 ∷ 1 ∷ 0 ∷ 2 ∷ 1 ∷ 2 ∷ 1 ∷ 3 ∷ 2 ∷ 3 ∷ 3 ∷ 4 ∷ 3 ∷ 5 ∷ 4 ∷ 5 ∷ 0 ∷ 4 ∷ 0 ∷ 5 ∷ []) 0 1 5

-- four switches in a ring, one more with no link
ring : Network
ring = network_of 5 (0 ∷ 1 ∷ 1 ∷ 2 ∷ 2 ∷ 3 ∷ 3 ∷ 0 ∷ []) 0 1 3

-- the first search gives 0 2 3 1, and three walks exist only without its link 2 3
twist : Network
twist = network_of 11 (0 ∷ 2 ∷ 2 ∷ 3 ∷ 3 ∷ 1 ∷ 0 ∷ 4 ∷ 4 ∷ 8 ∷ 8 ∷ 3 ∷ 2 ∷ 5 ∷ 5 ∷ 9 ∷ 9 ∷ 1 ∷ 0 ∷ 6 ∷ 6 ∷ 7 ∷ 7 ∷ 10 ∷ 10 ∷ 1 ∷ []) 0 2 4

answers : List Routes
answers =
    routes_of six 1 4
    ∷ routes_of six 4 1
    ∷ routes_of six 0 3
    ∷ routes_of four 1 3
    ∷ routes_of ring 0 1
    ∷ routes_of ring 0 2
    ∷ routes_of ring 0 4
    ∷ routes_of twist 0 1
    ∷ []

expected : List Routes
expected =
    parted (switch 0 ∷ switch 3 ∷ [])
    ∷ parted (switch 0 ∷ switch 3 ∷ [])
    ∷ walks (0 ∷ 1 ∷ 3 ∷ []) (0 ∷ 2 ∷ 3 ∷ []) (0 ∷ 4 ∷ 3 ∷ [])
    ∷ walks (1 ∷ 3 ∷ []) (1 ∷ 0 ∷ 3 ∷ []) (1 ∷ 2 ∷ 3 ∷ [])
    ∷ parted (link 0 ∷ switch 3 ∷ [])
    ∷ parted (switch 1 ∷ switch 3 ∷ [])
    ∷ parted []
    ∷ walks (0 ∷ 2 ∷ 5 ∷ 9 ∷ 1 ∷ []) (0 ∷ 6 ∷ 7 ∷ 10 ∷ 1 ∷ []) (0 ∷ 4 ∷ 8 ∷ 3 ∷ 1 ∷ [])
    ∷ []

examples : answers ≡ expected
unfolding answers expected four six ring twist low any size former latter joins link_of joined walk_by far_end assigned usable left path_of lowest entered leaving enter leave_by leave turns augment up_from explore matched tries answer_by routes_of
examples = refl

-- with the slice: K4 fills N + 4 numbers and no more; card k leaves it; 26 before 18, and 18 for N + 3 numbers
told : List Told
told =
    routes_into four 1 3 (replicate 9 9)
    ∷ routes_into six 1 4 (replicate 10 9)
    ∷ routes_into four 1 3 (replicate 7 9)
    ∷ routes_into four 1 1 (replicate 7 9)
    ∷ routes_into four 4 1 (replicate 7 9)
    ∷ []

right : List Told
right =
    record { reply = counts 2 3 3; after = 1 ∷ 3 ∷ 1 ∷ 0 ∷ 3 ∷ 1 ∷ 2 ∷ 3 ∷ 9 ∷ [] }
    ∷ record { reply = things (switch 0 ∷ switch 3 ∷ []); after = replicate 10 9 }
    ∷ refusing 18 (replicate 7 9)
    ∷ refusing 26 (replicate 7 9)
    ∷ refusing 26 (replicate 7 9)
    ∷ []

slices : told ≡ right
unfolding told right four six low any size former latter joins link_of joined walk_by far_end assigned usable left path_of lowest entered leaving enter leave_by leave turns augment up_from explore matched tries answer_by routes_of wrong_pair routes_into
slices = refl
