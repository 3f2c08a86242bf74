use Rattle.std.proofs.Common.{◌≡◌, take, replicate}
use Rattle.records.specs.Records.{ends_of, ducts_of}
use Rattle.records.proofs.Records.{fitting}
use Rattle.records.proofs.flatten.Given as goal

-- the rows once the first records are stored
abbrev pub invariant-loop-i : goal.invariant-loop-i
invariant-loop-i l =
    (l.ends ≡ fitting (ends_of (take l.i l.links)) (replicate 8192 0)) × (l.ducts ≡ fitting (ducts_of (take l.i l.links)) (replicate 4096 0))
