-- Document 01's output, line by line, computed from the definitions.
-- One line of each reply.
use Rattle.std.proofs.Common.{◌≡◌, [], ◌∷◌, map, refl}
use Rattle.lines.specs.Writing.{ascii, decimal_in, decimal, spaced, separated, bracketed}
use Rattle.replies.specs.Replies.{opened, new, refused, closed, walked, cleared, unread, reply}

pub output_is_written : map reply (opened 4 6 ∷ new 3 ∷ refused 23 2 ∷ closed ∷ walked 2 3 (2 ∷ 3 ∷ 0 ∷ []) ∷ cleared ∷ unread 65535 ∷ [])
    ≡ ascii "(opened 4 6)\n"
    ∷ ascii "(new 3)\n"
    ∷ ascii "(refused 23 2)\n"
    ∷ ascii "(closed)\n"
    ∷ ascii "(walk 2 3 (2 3 0))\n"
    ∷ ascii "(cleared)\n"
    ∷ ascii "(unread 65535)\n"
    ∷ []
unfolding bracketed separated spaced decimal decimal_in
output_is_written = refl
