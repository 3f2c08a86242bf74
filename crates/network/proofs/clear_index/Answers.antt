use Rattle.std.proofs.Common.{◌≡◌, ℕ, ◌<◌, List, length, take, drop, replicate, get_or, ◌++◌, arith, length-take, length-append, get_or-take}
use Rattle.std.proofs.Math.ListN.{get_or-append, length-replicate}
use Rattle.std.proofs.lemmas.List.{get_or-replicate}
use borrow.Rule.Slice.PartMut.{put_mid}
use Rattle.network.proofs.clear_index.Goals as goal

-- the first n numbers of a list, once they are `end` and the n after them are written
cleared : (n k : ℕ) (one two rest : List ℕ) (end v : ℕ) → one ≡ replicate k end → k ≡ n → v < n → get_or (put_mid n n (one ++ rest) two) v 0 ≡ end
cleared n k one two rest end v e m l =
    let a : length one ≡ n = rw (e, length-replicate k end) m in
    let b : v < length (take n (one ++ rest)) = omega (arith, length-take n (one ++ rest), length-append one rest) in
    let d : v < length one = omega arith in
    rw (get_or-append (take n (one ++ rest)) _ 0 v b, get_or-take n (one ++ rest) v 0 l, get_or-append one rest 0 v d, e) (get_or-replicate k v end 0 (omega arith))

pub slice_bounds-fill-end-2 : goal.slice_bounds-fill-end-2
slice_bounds-fill-end-2 c = omega (arith, length-take 1024 c.args.index.now)

pub returns : goal.returns
returns c = λ v l. cleared 1024 _ c.fill.new.self c.fill-2.new.self (drop 1024 c.args.index.now) c.args.end v (c.fill.ensures.after (λ y e. e)) (omega (arith, length-take 1024 c.args.index.now)) l
