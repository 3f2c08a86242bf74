-- The number and the place of each refusal, and the papers' answer of a call that gives a value or a refusal.
-- Numbers and places are those of the checks of documents 01 and 02.
use Rattle.std.specs.Prelude.{List, ℕ, Result, Ok, Err}
use Rattle.mondschein.specs.Judge.{Answer, given, refused}
use Rattle.refusals.specs.declared.Refusal.{Refusal}
use Rattle.refusals.specs.declared.Refusal.TheVariants.{WrongSize, LinkTooLarge, SelfLink, RepeatedLink, WrongNames, MissingLink, WrongLength, SwitchTooLarge, RepeatedSwitch, NotJoined, UsedAlready, WrongCycle, UnbornEnd, BornBetween, LastMisplaced, NoneUnborn, Unknown, TooShort, SessionEmpty, SessionNotEmpty, SessionOpen, SessionClosed, UnusedLink, WrongSizes, ReportFull, WrongPair}

-- the refusal's number
abbrev pub number : Refusal → ℕ
number WrongSize = 1
number (LinkTooLarge p) = 2
number (SelfLink p) = 3
number (RepeatedLink p) = 4
number WrongNames = 5
number MissingLink = 6
number WrongLength = 7
number (SwitchTooLarge p) = 8
number (RepeatedSwitch p) = 9
number (NotJoined p) = 10
number (UsedAlready p) = 11
number WrongCycle = 12
number (UnbornEnd p) = 13
number (BornBetween p) = 14
number (LastMisplaced p) = 15
number (NoneUnborn p) = 16
number Unknown = 17
number TooShort = 18
number SessionEmpty = 19
number SessionNotEmpty = 20
number SessionOpen = 21
number SessionClosed = 22
number (UnusedLink p) = 23
number WrongSizes = 24
number ReportFull = 25
number WrongPair = 26

-- its place, 0 where the papers tell none
abbrev pub place : Refusal → ℕ
place WrongSize = 0
place (LinkTooLarge p) = p
place (SelfLink p) = p
place (RepeatedLink p) = p
place WrongNames = 0
place MissingLink = 0
place WrongLength = 0
place (SwitchTooLarge p) = p
place (RepeatedSwitch p) = p
place (NotJoined p) = p
place (UsedAlready p) = p
place WrongCycle = 0
place (UnbornEnd p) = p
place (BornBetween p) = p
place (LastMisplaced p) = p
place (NoneUnborn p) = p
place Unknown = 0
place TooShort = 0
place SessionEmpty = 0
place SessionNotEmpty = 0
place SessionOpen = 0
place SessionClosed = 0
place (UnusedLink p) = p
place WrongSizes = 0
place ReportFull = 0
place WrongPair = 0

-- the answer of a call: the values that it gives, or the refusal's number and place
abbrev pub answer_of : {A : Type 0} → (A → List ℕ) → Result A Refusal → Answer
answer_of values (Ok x) = given (values x)
answer_of values (Err e) = refused (number e) (place e)
