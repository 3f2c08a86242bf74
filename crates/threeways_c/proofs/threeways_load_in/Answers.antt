use mathlib.Core.Path.{subst}
use lib.ListN.{length, take}
use Rattle.mondschein.specs.Outcome.{Outcome}
use Rattle.network.specs.Load.{network_of}
use Rattle.records.specs.declared.Flat.{Flat}
use Rattle.records.specs.Records.{numbers_of}
use Rattle.memory.specs.Memory.{Memory, numbers_by, memory_by, Returns}
use Rattle.memory.specs.Calls.{Loads}
use Rattle.memory_load.proofs.Records.{records_in_memory}
use Rattle.threeways_c.proofs.threeways_load_in.Goals as goal

pub returns : goal.returns
returns c =
    let a = c.args in
    let r = c.load_flat.result in
    let new = c.load_flat.new in
    let before : Memory =
    memory_by (numbers_by a.stage.now a.n.now a.m.now a.root.now a.first.now a.last.now a.longs.now a.born.now) a.links.now a.ducts.now a.used.now a.births.now a.order.now
    a.tree1.now a.tree2.now a.tree3.now in
    let after : Memory =
    memory_by (numbers_by new.stage new.n new.m new.root new.first new.last new.longs new.born) new.links new.ducts new.used new.births new.order new.tree1 new.tree2 new.tree3 in
    subst (λ (o : Outcome Memory). Returns o r after) (records_in_memory before a.new_n a.new_links.now a.new_root a.new_first a.new_last)
    (subst (λ (f : Flat). Loads before (network_of a.new_n (take (numbers_of (length a.new_links.now)) f.ends) a.new_root a.new_first a.new_last) f.ducts r after)
    c.flatten-flat.ensures c.load_flat.ensures)
