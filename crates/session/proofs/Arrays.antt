-- What a function knows of a session that it is given by value: each array has the length of its type.
-- Paths into that knowledge go by the fields of the session, in their order.
use mathlib.Core.Path.{◌≡◌}
use mathlib.Core.List.{[], ◌∷◌}
use lib.ListN.{length}
use denote.Laws.{Is}
use denote.Struct.Declared.{row}
use denote.Struct.Laws.{val}
use Rattle.records.specs.declared.Flat.{Flat}
use Rattle.records.specs.contracts.Flat as Table
use Rattle.records.proofs.Flat.TheLaws as Table·
use Rattle.in_place.specs.declared.Session.{Session}
use Rattle.in_place.specs.InPlace.{SizedAs}
use Rattle.in_place.specs.contracts.Session.{the_type}
use Rattle.in_place.proofs.Session.TheLaws.{the_laws}

-- what owning a session tells of it
abbrev Owned : Session → Type 0
Owned s = Is (row the_type) s (val the_type the_laws s ∷ [])

pub arrays_sized : (s : Session) → Owned s → SizedAs s.links s.ducts s.used s.births s.order s.tree1 s.tree2 s.tree3
arrays_sized s o =
    let from_links = o.1.1.1.1.1.1.1.1 in
    let from_used = from_links.1.1 in
    let from_order = from_used.1.1.1.1 in
    record {
      links = from_links.0.1.0.1;
      ducts = from_links.1.0.1.0.1;
      used = from_used.0.1.0.1;
      births = from_used.1.1.0.1.0.1;
      order = from_order.0.1.0.1;
      tree1 = from_order.1.0.1.0.1;
      tree2 = from_order.1.1.0.1.0.1;
      tree3 = from_order.1.1.1.0.1.0.1;
    }

-- and of a flat table
abbrev OwnedTable : Flat → Type 0
OwnedTable f = Is (row Table.the_type) f (val Table.the_type Table·.the_laws f ∷ [])

pub ends_sized : (f : Flat) → OwnedTable f → length f.ends ≡ 8192
ends_sized f o = o.1.1.0.1.0.1

pub ducts_sized : (f : Flat) → OwnedTable f → length f.ducts ≡ 4096
ducts_sized f o = o.1.1.1.0.1.0.1
