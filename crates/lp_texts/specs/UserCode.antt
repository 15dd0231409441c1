-- What is answered of uses and of the codes of actions.
use Rattle.std.specs.Prelude.{◌≡◌, ℕ, List, [], ◌∷◌, ◌++◌, ◌⊎◌, Option, Some, None}
use Rattle.std.specs.Str.{chars}
use Rattle.lp_tok.specs.declared.tok.ErrorCode.{ErrorCode}
use Rattle.lp_tok.specs.Signs.{line_feed, semicolon, right_brace}
use Rattle.lp_tok.specs.Cut.{StopsAt, EndsCut, FailsCut}
use Rattle.lp_repr.specs.declared.repr.ActionFnDefnKind.{ActionFnDefnKind}
use Rattle.lp_repr.specs.declared.repr.ActionFnDefnKind.TheVariants as kind

-- the cut of a text stops or fails at a byte
abbrev pub HaltsAt : List ℕ → ℕ → Type 0
HaltsAt text byte = EndsCut text 0 byte ⊎ ((code : ErrorCode) × FailsCut text 0 (record { location = byte; code = code }))

-- the cut of a text and a closer behind it stops at the last character of the closer; else it stops or fails
-- at this byte
abbrev pub AnswersCut : List ℕ → List ℕ → List ℕ → Option ℕ → Type 0
AnswersCut closer last text None = StopsAt (chars text ++ closer) last
AnswersCut closer last text (Some byte) = (¬ StopsAt (chars text ++ closer) last) × HaltsAt (text ++ closer) byte

-- a use, with `;` behind it
abbrev pub AnswersUse : List ℕ → Option ℕ → Type 0
AnswersUse text = AnswersCut (semicolon ∷ []) (semicolon ∷ []) text

-- a code, with a line end and `}` behind it
abbrev pub AnswersCode : List ℕ → Option ℕ → Type 0
AnswersCode text = AnswersCut (line_feed ∷ right_brace ∷ []) (right_brace ∷ []) text

-- an action: only that of a user has a code
abbrev pub AnswersAction : ActionFnDefnKind → Option ℕ → Type 0
AnswersAction (kind.User patterns types code) fault = AnswersCode code fault
AnswersAction (kind.Lookaround which) fault = fault ≡ None
AnswersAction (kind.Inline outer parts) fault = fault ≡ None
