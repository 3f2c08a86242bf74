-- What a session holds after each call and what the call answers, for any session and any arguments: the step of the machine of
-- document 01, with the session's fields for its state.
use Rattle.std.specs.Prelude.{cond, List, [], ◌++◌, ℕ, ◌-◌, ◌*◌, eqb, length, replicate, take}
use Rattle.mondschein.specs.Network.{Network, size}
use Rattle.mondschein.specs.Judge.{given, refused, loading, closing}
use Rattle.mondschein.specs.Order.{Rule, shortest}
use Rattle.mondschein.specs.Outcome.{Outcome, settle}
use Rattle.mondschein.specs.WholeList.{offering, ears_in}
use Rattle.mondschein.specs.EmptyEar.{is_empty, entering}
use Rattle.network.specs.Load.{network_of}
use Rattle.rows.specs.Rows.{marked}
use Rattle.left_over.specs.LeftOver.{used_after_empty}
use Rattle.thirds.specs.Tree3.{tree3_of}
use Rattle.tables.specs.Tables.{Tables, tables_of, after_ear}
use Rattle.in_place.specs.declared.Stage.{Stage}
use Rattle.in_place.specs.declared.Stage.TheVariants.{Empty, Open, Closed}
use Rattle.in_place.specs.declared.Session.{Session}

-- the network as a session stores it: M, and the table and the ducts of its links at the start of an array each
pub record Stored : Type 0 where
  pub n : ℕ
  pub m : ℕ
  pub root : ℕ
  pub first : ℕ
  pub last : ℕ
  pub links : List ℕ
  pub ducts : List ℕ

-- a session by its parts: the stage, the network, what the accepted ears have left, and tree 3
abbrev pub session_of : Stage → Stored → Tables → List ℕ → Session
session_of stage k t tree3 =
    record {
      stage = stage;
      n = k.n;
      m = k.m;
      root = k.root;
      first = k.first;
      last = k.last;
      links = k.links;
      ducts = k.ducts;
      used = t.used;
      longs = t.longs;
      births = t.births;
      born = t.born;
      order = t.order;
      tree1 = t.tree1;
      tree2 = t.tree2;
      tree3 = tree3;
    }

abbrev pub zeros : ℕ → List ℕ
zeros c = replicate c 0

-- a list at the start of an array of c numbers
abbrev pub padded : ℕ → List ℕ → List ℕ
padded c l = l ++ zeros (c - length l)

-- the network of a plan, and none
abbrev pub stored_of : Network → List ℕ → Stored
stored_of net ducts =
    record {
      n = net.n;
      m = size net;
      root = net.root;
      first = net.first;
      last = net.last;
      links = padded 8192 net.links;
      ducts = padded 4096 (take (size net) ducts);
    }

abbrev pub none_stored : Stored
none_stored = record { n = 0; m = 0; root = 0; first = 0; last = 0; links = zeros 8192; ducts = zeros 4096 }

-- nothing is born and no link used
abbrev pub no_tables : Tables
no_tables = tables_of (zeros 4096) 0 (zeros 1024) 0 (zeros 1024) (zeros 1024) (zeros 1024)

-- the fresh session
abbrev pub empty_session : Session
empty_session = session_of Empty none_stored no_tables (zeros 1024)

-- the session that has loaded a network with its ducts and accepted no ear; a link past the end of the ducts has duct 0
unfoldable pub opened_with : Network → List ℕ → Session
opened_with net ducts = session_of Open (stored_of net ducts) no_tables (zeros 1024)

-- the network that is stored
abbrev pub network_as : Stored → Network
network_as k = network_of k.n (take (2 * k.m) k.links) k.root k.first k.last

-- the parts of a session: the network, and what its accepted ears have left
abbrev pub stored_in : Session → Stored
stored_in s = record { n = s.n; m = s.m; root = s.root; first = s.first; last = s.last; links = s.links; ducts = s.ducts }

abbrev pub network_in : Session → Network
network_in s = network_as (stored_in s)

abbrev pub tables_in : Session → Tables
tables_in s = tables_of s.used s.longs s.births s.born s.order s.tree1 s.tree2

-- the tables after an offered ear: an empty one changes the used links alone
unfoldable pub after_offer : Network → List ℕ → Tables → Tables
after_offer net e t =
    cond (is_empty (eqb t.born 0) e)
    (tables_of (used_after_empty net t.births t.used) t.longs t.births t.born t.order t.tree1 t.tree2) (after_ear net e t)

-- the session with other tables
abbrev pub with_tables : Session → Tables → Session
with_tables s t = session_of s.stage (stored_in s) t s.tree3

-- the session with another row for tree 3, and the same closed
abbrev pub with_third : Session → List ℕ → Session
with_third s tree3 = session_of s.stage (stored_in s) (tables_in s) tree3

abbrev pub closed_with : Session → List ℕ → Session
closed_with s tree3 = session_of Closed (stored_in s) (tables_in s) tree3

-- tree 3 by a rule, from the network and the births that a session keeps
abbrev pub third_in : Rule → Session → List ℕ
third_in rule s = tree3_of rule (network_in s) s.births s.tree3

-- an answer for each stage
unfoldable pub by_stage : {A : Type 0} → Stage → A → A → A → A
by_stage Empty a b c = a
by_stage Open a b c = b
by_stage Closed a b c = c

-- load: 20 on a session that is not empty, then checks 1 to 6; they do not ask for the ducts
unfoldable pub loaded_by : Session → Network → List ℕ → Outcome Session
loaded_by s net ducts = settle s (opened_with net ducts) (by_stage s.stage (loading net) (refused 20 0) (refused 20 0))

-- ear: 19 on an empty session, 22 on a closed one; then it is the first where nothing is born, an empty one after it takes the leftover
-- links (document 02, Note 2), and any other is judged by checks 7 to 16
unfoldable pub offered_by : Session → List ℕ → Outcome Session
offered_by s e =
    settle s (with_tables s (after_offer (network_in s) e (tables_in s)))
    (by_stage s.stage (refused 19 0) (entering (network_in s) (marked s.births) (marked s.used) (eqb s.born 0) e) (refused 22 0))

-- ears (document 02, Note 1): those of the slice, one after another, up to the first refusal
unfoldable pub listed_by : Session → List ℕ → Outcome Session
listed_by s l = offering offered_by s (ears_in l)

-- close: 19 on an empty session, 22 on a closed one, then 23. Today's is by the rule `shortest`; that of the earlier delivery, by the rule
-- `lowest`, stays as a definition, so that the sessions that it left are spoken of
unfoldable pub closed_by : Rule → Session → Outcome Session
closed_by rule s =
    settle s (closed_with s (third_in rule s))
    (by_stage s.stage (refused 19 0) (closing (network_in s) (marked s.used)) (refused 22 0))

-- bringing over (document 02, Note 6): 19 on an empty session, 21 on an open one; on a closed one tree 3 alone is set
unfoldable pub brought_by : Session → Outcome Session
brought_by s = settle s (with_third s (third_in shortest s)) (by_stage s.stage (refused 19 0) (refused 21 0) (given []))

-- clear
unfoldable pub cleared_by : Session → Outcome Session
cleared_by s = settle s empty_session (given [])
