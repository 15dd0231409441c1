-- The cut: where user code ends that no bracket holds.
use Rattle.std.specs.Prelude.{◌≡◌, ℕ, ◌+◌, ◌-◌, ◌<◌, List, [], ◌∷◌, ◌++◌, ◌⊎◌, drop}
use Rattle.std.specs.Str.{chars, IsCharBoundary}
use Rattle.lp_tok.specs.declared.tok.Error.{Error}
use Rattle.lp_tok.specs.declared.tok.ErrorCode.TheVariants.{UnterminatedCode}
use Rattle.lp_tok.specs.declared.tok.ErrorCode.{ErrorCode}
use Rattle.lp_tok.specs.declared.quoted.Kind.{Kind}
use Rattle.lp_tok.specs.declared.quoted.Kind.TheVariants.{Opening, Closing, Separating, Plain}
use Rattle.lp_tok.specs.CodePieces.{code_piece, Whole, Fault, Nothing}

-- the pieces of a text up to the place where `rest` is left
pub data Splits : List ℕ → List Kind → List ℕ → Type 0 where
  splits_none : (cs : List ℕ) → Splits cs [] cs
  splits_one : (cs next rest : List ℕ) (k : Kind) (ks : List Kind) → code_piece cs ≡ Whole k next → Splits next ks rest → Splits cs (k ∷ ks) rest

-- how many of the pieces open a bracket
abbrev pub openers : List Kind → ℕ
openers [] = 0
openers (Opening ∷ ks) = openers ks + 1
openers (Closing ∷ ks) = openers ks
openers (Separating ∷ ks) = openers ks
openers (Plain ∷ ks) = openers ks

-- how many close one
abbrev pub closers : List Kind → ℕ
closers [] = 0
closers (Opening ∷ ks) = closers ks
closers (Closing ∷ ks) = closers ks + 1
closers (Separating ∷ ks) = closers ks
closers (Plain ∷ ks) = closers ks

-- how many brackets are open after the pieces, of all three kinds together
abbrev pub balance : List Kind → ℕ
balance ks = openers ks - closers ks

-- how many brackets are open after a piece, where n were open before it
abbrev pub open_after : ℕ → Kind → ℕ
open_after n Opening = n + 1
open_after n Closing = n - 1
open_after n Separating = n
open_after n Plain = n

-- a cut may end at a piece of this kind
abbrev pub IsEnder : Kind → Type 0
IsEnder Opening = ⊥
IsEnder Closing = Unit {0}
IsEnder Separating = Unit {0}
IsEnder Plain = ⊥

-- the pieces before `rest`, none of which ends the cut: where one could, a bracket is open
pub record IsInside (cs : List ℕ) (ks : List Kind) (rest : List ℕ) : Type 0 where
  pub splits : Splits cs ks rest
  pub goes_on : (before after : List Kind) (k : Kind) → ks ≡ before ++ k ∷ after → IsEnder k → 0 < balance before

-- at `rest` stands a piece that may end the cut, or nothing
abbrev pub MayEnd : List ℕ → Type 0
MayEnd rest = ((k : Kind) × (next : List ℕ) × (code_piece rest ≡ Whole k next) × IsEnder k) ⊎ (code_piece rest ≡ Nothing)

-- the cut stops where `rest` is left
abbrev pub StopsAt : List ℕ → List ℕ → Type 0
StopsAt cs rest = (ks : List Kind) × IsInside cs ks rest × (balance ks ≡ 0) × MayEnd rest

-- a piece of the cut has no end: the error, and what is left at its place
abbrev pub BreaksAt : List ℕ → ErrorCode → List ℕ → Type 0
BreaksAt cs code place = (ks : List Kind) × (rest : List ℕ) × IsInside cs ks rest × (code_piece rest ≡ Fault code place)

-- the text ends inside a bracket
abbrev pub IsUnclosed : List ℕ → Type 0
IsUnclosed cs = (ks : List Kind) × (rest : List ℕ) × IsInside cs ks rest × (code_piece rest ≡ Nothing) × (0 < balance ks)

-- in a text, the cut from the byte `from` stops at the byte n
pub record EndsCut (text : List ℕ) (from n : ℕ) : Type 0 where
  pub stops : StopsAt (chars (drop from text)) (chars (drop n text))
  pub boundary : IsCharBoundary text n

-- in a text, the cut from the byte `from` fails: a piece of it has no end, or a bracket
pub data FailsCut (text : List ℕ) (from : ℕ) : Error → Type 0 where
  breaks : (code : ErrorCode) (n : ℕ) → BreaksAt (chars (drop from text)) code (chars (drop n text)) → IsCharBoundary text n → FailsCut text from (record { location = n; code = code })
  unclosed : IsUnclosed (chars (drop from text)) → FailsCut text from (record { location = from; code = UnterminatedCode })
