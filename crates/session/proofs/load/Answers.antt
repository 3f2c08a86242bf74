use Rattle.std.proofs.Common.{List, ℕ, length, take, ap, ◌∙◌}
use Rattle.network.specs.Load.{network_of}
use Rattle.records.specs.declared.Flat.{Flat}
use Rattle.records.specs.Records.{numbers_of}
use Rattle.in_place.specs.Session.{loaded_by}
use Rattle.session.proofs.Records.{records_loaded}
use Rattle.session.proofs.load.Goals as goal

pub returns : goal.returns
returns c =
    let a = c.args in
    let flat = c.flatten-flat.result in
    c.load_flat.ensures
    ∙ ap (λ (l : List ℕ). loaded_by a.s (network_of a.n l a.root a.first a.last) flat.ducts) (c.prefix-ends.ensures ∙ ap (λ (k : ℕ). take k flat.ends) c.numbers_of.ensures)
    ∙ ap (λ (f : Flat). loaded_by a.s (network_of a.n (take (numbers_of (length a.links.now)) f.ends) a.root a.first a.last) f.ducts) c.flatten-flat.ensures
    ∙ records_loaded a.s a.n a.links.now a.root a.first a.last
