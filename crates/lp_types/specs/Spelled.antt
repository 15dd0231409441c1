-- The tokens that a grammar file's text spells: those of the text, where in the braces of `enum` the tokens of a
-- code follow its `=>`.
use Rattle.std.specs.Prelude.{◌≡◌, ℕ, ◌+◌, ◌-◌, List, [], ◌∷◌, ◌++◌, Option, Some, None, MatchOption, Result, Ok, Err, if◌then◌else◌, length}
use Rattle.lp_tok.specs.declared.tok.Error.{Error}
use Rattle.lp_tok.specs.declared.tok.Tok.{Tok}
use Rattle.lp_tok.specs.declared.tok.Tok.TheVariants.{Enum, LeftBrace, RightBrace}
use Rattle.lp_tok.specs.Token.{Item, token_of}
use Rattle.lp_tok.specs.Tokens.{AreTokensOf}
use Rattle.lp_types.specs.declared.error.PlainError.{PlainError}
use Rattle.lp_types.specs.declared.error.PlainError.TheVariants.{Memory}
use Rattle.lp_types.specs.declared.texts.Kind.TheVariants.{Code}
use Rattle.lp_types.specs.declared.tokens.Where.{Where}
use Rattle.lp_types.specs.declared.tokens.Where.TheVariants.{Outside, Heading, Inside}
use Rattle.lp_types.specs.Left.{Left, token, ends, breaks}
use Rattle.lp_types.specs.Marks.{Mark, With, mark_of, is_tok}
use Rattle.lp_types.specs.Reading.{Reading, Answers}

-- a token between its places, or an error
abbrev pub Seen : Type 0
Seen = Result (ℕ × Mark × ℕ) Error

-- the tokens and errors of the tokenizer, as a reader sees them
pub data AreSeen : List Item → List Seen → Type 0 where
  seen_none : AreSeen [] []
  seen_token : (from : ℕ) (t : Tok) (to : ℕ) (items : List Item) (marks : List Seen) → AreSeen items marks → AreSeen (Ok (from, token_of t, to) ∷ items) (Ok (from, mark_of t, to) ∷ marks)
  seen_error : (e : Error) (items : List Item) (marks : List Seen) → AreSeen items marks → AreSeen (Err e ∷ items) (Err e ∷ marks)

-- the tokens of a text whose places begin with `offset`, and its error, if there is one
pub record AreMarksOf (text : List ℕ) (offset : ℕ) (marks : List Seen) : Type 0 where
  pub items : List Item
  pub fit : AreTokensOf text offset items
  pub seen : AreSeen items marks

-- where the token after this one stands: `enum` begins the heading, `{` after it the inside, up to `}`
abbrev pub where_after : Where → Mark → Where
where_after Outside m = if is_tok Enum (Some m) then Heading else Outside
where_after Heading m = if is_tok LeftBrace (Some m) then Inside else Heading
where_after Inside m = if is_tok RightBrace (Some m) then Outside else Inside

-- the code of an arrow
abbrev pub arrow_code : Mark → Option (List ℕ)
arrow_code (With Code code) = Some code
arrow_code m = None

-- the code of an arrow in the enum
abbrev pub code_inside : Where → Mark → Option (List ℕ)
code_inside Outside m = None
code_inside Heading m = None
code_inside Inside m = arrow_code m

-- the tokens that follow a token which ends at the place `to`: those of its code, where it is an arrow in the
-- enum, else none
abbrev pub AreInside : Where → Mark → ℕ → List Seen → Type 0
AreInside w m to inside = MatchOption (code_inside w m) (inside ≡ []) (λ code. AreMarksOf code (to - length code) inside)

-- the tokens of a text that ends at the place `end`, with those of the codes of the enum, and of the codes in
-- those; an error ends them
pub data Spliced (end : ℕ) : Where → List Seen → Left → Type 0 where
  spliced_end : (w : Where) → Spliced end w [] (ends end)
  spliced_error : (w : Where) (e : Error) (marks : List Seen) → Spliced end w (Err e ∷ marks) (breaks e)
  spliced_token : (w : Where) (from : ℕ) (m : Mark) (to : ℕ) (marks inside : List Seen) (rest : Left) → AreInside w m to inside → Spliced end (where_after w m) (inside ++ marks) rest → Spliced end w (Ok (from, m, to) ∷ marks) (token from m to rest)

-- a text whose places begin with `offset` spells these tokens
pub record Spells (text : List ℕ) (offset : ℕ) (tokens : Left) : Type 0 where
  pub plain : List Seen
  pub fit : AreMarksOf text offset plain
  pub spliced : Spliced (length text + offset) Outside plain tokens

-- it spells these, and no others
pub record IsSpelling (text : List ℕ) (offset : ℕ) (tokens : Left) : Type 0 where
  pub spelled : Spells text offset tokens
  pub no_other : (others : Left) → Spells text offset others → others ≡ tokens

-- what the tokenizer answers, as a reader sees it
abbrev pub seen : Result (ℕ × Tok × ℕ) Error → Seen
seen (Ok x) = Ok (x.0, mark_of x.1, x.2)
seen (Err e) = Err e

-- a call answers what the reading finds at the front of the tokens that a text spells; want of memory says
-- nothing
pub data IsReading {A B : Type 0} (view : A → B) (reading : Reading B) (text : List ℕ) (offset : ℕ) : Result A PlainError → Type 0 where
  reads : (tokens rest : Left) (r : Result A PlainError) → IsSpelling text offset tokens → Answers view (reading tokens) r rest → IsReading view reading text offset r
  no_room : IsReading view reading text offset (Err Memory)
