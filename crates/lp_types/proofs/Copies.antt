-- Copies of tokens.
use Rattle.std.proofs.Common.{◌≡◌, refl}
use Rattle.lp_tok.specs.declared.tok.Tok.{Tok}
use Rattle.lp_tok.specs.declared.tok.Tok.TheVariants as tok
use Rattle.lp_tok.specs.contracts.tok.TokClone.TheImpl as cloning

-- one is a copy of the other
abbrev pub IsCopy : Tok → Tok → Type 0
IsCopy = (cloning.ghosts).is_clone

pub copy_same : (t u : Tok) → IsCopy t u → u ≡ t
copy_same tok.Enum tok.Enum h = refl
copy_same tok.Extern tok.Extern h = refl
copy_same tok.Grammar tok.Grammar h = refl
copy_same tok.Match tok.Match h = refl
copy_same tok.Else tok.Else h = refl
copy_same tok.If tok.If h = refl
copy_same tok.Mut tok.Mut h = refl
copy_same tok.Pub tok.Pub h = refl
copy_same tok.In tok.In h = refl
copy_same tok.TypeWord tok.TypeWord h = refl
copy_same tok.Where tok.Where h = refl
copy_same tok.For tok.For h = refl
copy_same tok.Dyn tok.Dyn h = refl
copy_same (tok.Use a) (tok.Use b) h = cc
copy_same (tok.Escape a) (tok.Escape b) h = cc
copy_same (tok.Id a) (tok.Id b) h = cc
copy_same (tok.MacroId a) (tok.MacroId b) h = cc
copy_same (tok.Lifetime a) (tok.Lifetime b) h = cc
copy_same (tok.StringLiteral a) (tok.StringLiteral b) h = cc
copy_same (tok.CharLiteral a) (tok.CharLiteral b) h = cc
copy_same (tok.RegexLiteral a) (tok.RegexLiteral b) h = cc
copy_same tok.Ampersand tok.Ampersand h = refl
copy_same tok.BangEquals tok.BangEquals h = refl
copy_same tok.BangTilde tok.BangTilde h = refl
copy_same tok.Colon tok.Colon h = refl
copy_same tok.ColonColon tok.ColonColon h = refl
copy_same tok.Comma tok.Comma h = refl
copy_same tok.DotDot tok.DotDot h = refl
copy_same tok.Equals tok.Equals h = refl
copy_same tok.EqualsEquals tok.EqualsEquals h = refl
copy_same (tok.EqualsGreaterThanCode a) (tok.EqualsGreaterThanCode b) h = cc
copy_same (tok.EqualsGreaterThanQuestionCode a) (tok.EqualsGreaterThanQuestionCode b) h = cc
copy_same tok.EqualsGreaterThanLookahead tok.EqualsGreaterThanLookahead h = refl
copy_same tok.EqualsGreaterThanLookbehind tok.EqualsGreaterThanLookbehind h = refl
copy_same tok.Hash tok.Hash h = refl
copy_same tok.GreaterThan tok.GreaterThan h = refl
copy_same tok.LeftBrace tok.LeftBrace h = refl
copy_same tok.LeftBracket tok.LeftBracket h = refl
copy_same tok.LeftParen tok.LeftParen h = refl
copy_same tok.LessThan tok.LessThan h = refl
copy_same tok.Lookahead tok.Lookahead h = refl
copy_same tok.Lookbehind tok.Lookbehind h = refl
copy_same tok.MinusGreaterThan tok.MinusGreaterThan h = refl
copy_same tok.Plus tok.Plus h = refl
copy_same tok.Question tok.Question h = refl
copy_same tok.RightBrace tok.RightBrace h = refl
copy_same tok.RightBracket tok.RightBracket h = refl
copy_same tok.RightParen tok.RightParen h = refl
copy_same tok.Semi tok.Semi h = refl
copy_same tok.Star tok.Star h = refl
copy_same tok.TildeTilde tok.TildeTilde h = refl
copy_same tok.Underscore tok.Underscore h = refl
copy_same tok.Bang tok.Bang h = refl
copy_same (tok.ShebangAttribute a) (tok.ShebangAttribute b) h = cc
copy_same tok.StartGrammar tok.StartGrammar h = refl
copy_same tok.StartPattern tok.StartPattern h = refl
copy_same tok.StartMatchMapping tok.StartMatchMapping h = refl
copy_same tok.StartGrammarWhereClauses tok.StartGrammarWhereClauses h = refl
copy_same tok.StartTypeRef tok.StartTypeRef h = refl
copy_same t u h = absurd h
