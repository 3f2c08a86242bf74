-- Document 01's input, line by line, lines that are no form, and the longest ear, each computed from the definitions.
-- A carriage return is a byte like any other.
use mathlib.Core.Path.{◌≡◌, refl}
use mathlib.Core.List.{[], ◌∷◌, map}
use mathlib.Core.Option.{none, some}
use lib.ListN.{replicate}
use Rattle.lines.specs.Writing.{ascii, decimal_in, decimal, spaced, separated, bracketed, net, link, ducted, opening, ear, closing, walk, clearing, writing}
use Rattle.lines.specs.Reading.{after, digits, number, named_number, numbers_in, ear_numbers, net_form, pair_numbers, duct_form, link_form, bare_forms, other_forms, any_form, reading}

pub input_is_read : map reading (
    ascii "(net 4 (root 0) (first 1) (last 3))"
    ∷ ascii "(link 0 1)"
    ∷ ascii "(open)"
    ∷ ascii "(ear 0 2 1)"
    ∷ ascii "(ear)"
    ∷ ascii "(close)"
    ∷ ascii "(walk 2 3)"
    ∷ ascii "(clear)"
    ∷ ascii "(net 65535 (root 10) (first 0) (last 65535))"
    ∷ [])
    ≡ map some (net 4 0 1 3 ∷ link 0 1 ∷ opening ∷ ear (0 ∷ 2 ∷ 1 ∷ []) ∷ ear [] ∷ closing ∷ walk 2 3 ∷ clearing ∷ net 65535 10 0 65535 ∷ [])
unfolding reading any_form other_forms link_form duct_form bare_forms pair_numbers net_form ear_numbers numbers_in named_number number digits after
input_is_read = refl

pub no_forms_are_unread : map reading (
    []
    ∷ ascii "(ear )"
    ∷ ascii "(ear  1)"
    ∷ ascii "(ear 1 )"
    ∷ ascii "(ear 00)"
    ∷ ascii "(ear 01)"
    ∷ ascii "(ear +1)"
    ∷ ascii "(ear 65536)"
    ∷ ascii "(ear 1x)"
    ∷ ascii "(link 0)"
    ∷ ascii "(link 0 1 2)"
    ∷ ascii "(link 0 1) "
    ∷ ascii " (open)"
    ∷ ascii "(Open)"
    ∷ ascii "(open)\r"
    ∷ ascii "(open"
    ∷ ascii "(opened)"
    ∷ ascii "(net 4 (root 0) (last 3) (first 1))"
    ∷ [])
    ≡ replicate 18 none
unfolding reading any_form other_forms link_form duct_form bare_forms pair_numbers net_form ear_numbers numbers_in named_number number digits after
no_forms_are_unread = refl

-- links with a duct, document 02, Note 7: 255 is the largest, and 0 is one
pub ducts_are_read : map reading (
    ascii "(link 0 1 (duct 7))"
    ∷ ascii "(link 0 1 (duct 0))"
    ∷ ascii "(link 1023 4 (duct 255))"
    ∷ [])
    ≡ map some (ducted 0 1 7 ∷ ducted 0 1 0 ∷ ducted 1023 4 255 ∷ [])
unfolding reading any_form other_forms link_form duct_form pair_numbers named_number number digits after
ducts_are_read = refl

pub no_ducts_are_unread : map reading (
    ascii "(link 0 1 (duct 256))"
    ∷ ascii "(link 0 1 (duct 65536))"
    ∷ ascii "(link 0 1 (duct 07))"
    ∷ ascii "(link 0 1 (duct))"
    ∷ ascii "(link 0 1(duct 7))"
    ∷ ascii "(link 0 1  (duct 7))"
    ∷ ascii "(link 0 1 (duct 7) )"
    ∷ ascii "(link 0 1 (duct 7)"
    ∷ ascii "(link 0 1 (Duct 7))"
    ∷ ascii "(link 0 1 7)"
    ∷ ascii "(link 0 (duct 7))"
    ∷ ascii "(link 0 1 (duct 7) (duct 7))"
    ∷ ascii "(walk 0 1 (duct 7))"
    ∷ [])
    ≡ replicate 13 none
unfolding reading any_form other_forms link_form duct_form bare_forms pair_numbers net_form named_number number digits after
no_ducts_are_unread = refl

-- 3,069 numbers in 6,144 bytes, and one byte more
pub longest_ear_is_read : reading (writing (ear (10 ∷ replicate 3068 0))) ≡ some (ear (10 ∷ replicate 3068 0))
unfolding reading any_form ear_numbers numbers_in number digits after writing bracketed separated spaced decimal decimal_in
longest_ear_is_read = refl

pub longer_ear_is_unread : reading (writing (ear (100 ∷ replicate 3068 0))) ≡ none
unfolding reading writing bracketed separated spaced decimal decimal_in
longer_ear_is_unread = refl
