-- Document 01, "Lines of threeways": the words, the forms of a line, and the bytes that each is written in, in ASCII; 48 is the digit 0.
-- Laws: proofs/Decimals.antt. Document 01's lines, computed: proofs/Examples.antt.
use Rattle.std.specs.Prelude.{cond, List, [], ◌∷◌, ◌++◌, map, ℕ, zero, suc, ◌+◌, ◌/◌, ◌%◌, ltb}
use Prim.Native.Char.{code}
use Prim.Native.String.{String}
use Prim.Native.String as Text

-- the bytes of a text
abbrev pub ascii : String → List ℕ
ascii Text.[] = []
ascii (Text.◌∷◌ c s) = code c ∷ ascii s

-- the words
abbrev pub NET : List ℕ
NET = ascii "net"

abbrev pub ROOT : List ℕ
ROOT = ascii "root"

abbrev pub FIRST : List ℕ
FIRST = ascii "first"

abbrev pub LAST : List ℕ
LAST = ascii "last"

abbrev pub LINK : List ℕ
LINK = ascii "link"

-- document 02, Note 7
abbrev pub DUCT : List ℕ
DUCT = ascii "duct"

abbrev pub OPEN : List ℕ
OPEN = ascii "open"

abbrev pub EAR : List ℕ
EAR = ascii "ear"

abbrev pub CLOSE : List ℕ
CLOSE = ascii "close"

abbrev pub WALK : List ℕ
WALK = ascii "walk"

abbrev pub CLEAR : List ℕ
CLEAR = ascii "clear"

-- at most so many digits after the first: the digits of a tenth, then the last one
unfoldable pub decimal_in : ℕ → ℕ → List ℕ
decimal_in zero n = (48 + n) ∷ []
decimal_in (suc k) n = cond (ltb n 10) ((48 + n) ∷ []) (decimal_in k (n / 10) ++ ((48 + n % 10) ∷ []))

-- a number in decimal, without leading zeros
unfoldable pub decimal : ℕ → List ℕ
decimal n = decimal_in n n

-- parts, each after one space
unfoldable pub spaced : List (List ℕ) → List ℕ
spaced [] = []
spaced (p ∷ ps) = ascii " " ++ (p ++ spaced ps)

-- parts, one space between
unfoldable pub separated : List (List ℕ) → List ℕ
separated [] = []
separated (p ∷ ps) = p ++ spaced ps

-- parts in brackets
unfoldable pub bracketed : List (List ℕ) → List ℕ
bracketed ps = ascii "(" ++ (separated ps ++ ascii ")")

-- the forms of a line; a link is written without a duct, or with one (document 02, Note 7)
pub data Form : Type 0 where
  net : (switches root first last : ℕ) → Form
  link : (a b : ℕ) → Form
  ducted : (a b duct : ℕ) → Form
  opening : Form
  ear : (numbers : List ℕ) → Form
  closing : Form
  walk : (switch tree : ℕ) → Form
  clearing : Form

-- a word and one number in brackets, as the named switches and a duct are written
abbrev pub named : List ℕ → ℕ → List ℕ
named word n = bracketed (word ∷ decimal n ∷ [])

-- the bytes of a form
unfoldable pub writing : Form → List ℕ
writing (net n root first last) = bracketed (NET ∷ decimal n ∷ named ROOT root ∷ named FIRST first ∷ named LAST last ∷ [])
writing (link a b) = bracketed (LINK ∷ decimal a ∷ decimal b ∷ [])
writing (ducted a b duct) = bracketed (LINK ∷ decimal a ∷ decimal b ∷ named DUCT duct ∷ [])
writing opening = bracketed (OPEN ∷ [])
writing (ear numbers) = bracketed (EAR ∷ map decimal numbers)
writing closing = bracketed (CLOSE ∷ [])
writing (walk switch tree) = bracketed (WALK ∷ decimal switch ∷ decimal tree ∷ [])
writing clearing = bracketed (CLEAR ∷ [])

-- the numbers of a form
abbrev pub numbers_of : Form → List ℕ
numbers_of (net n root first last) = n ∷ root ∷ first ∷ last ∷ []
numbers_of (link a b) = a ∷ b ∷ []
numbers_of (ducted a b duct) = a ∷ b ∷ duct ∷ []
numbers_of opening = []
numbers_of (ear numbers) = numbers
numbers_of closing = []
numbers_of (walk switch tree) = switch ∷ tree ∷ []
numbers_of clearing = []

-- the duct of a form; 0, no duct, where it has none
abbrev pub duct_of : Form → ℕ
duct_of (net n root first last) = 0
duct_of (link a b) = 0
duct_of (ducted a b duct) = duct
duct_of opening = 0
duct_of (ear numbers) = 0
duct_of closing = 0
duct_of (walk switch tree) = 0
duct_of clearing = 0
