-- How tokens are seen.
use Rattle.std.proofs.Common.{◌≡◌}
use Rattle.lp_tok.specs.declared.tok.Tok.{Tok}
use Rattle.lp_tok.specs.declared.tok.Tok.TheVariants as tok
use Rattle.lp_tok.specs.Token.{Symbol, token_of}
use Rattle.lp_types.specs.Marks.{Plain, mark_of}

-- tokens with the same bytes are seen as the same
symbol_mark : (t u : Tok) → Symbol t ≡ token_of u → Plain t ≡ mark_of u
symbol_mark t (tok.Use a) e = absurd cc
symbol_mark t (tok.Escape a) e = absurd cc
symbol_mark t (tok.Id a) e = absurd cc
symbol_mark t (tok.MacroId a) e = absurd cc
symbol_mark t (tok.Lifetime a) e = absurd cc
symbol_mark t (tok.StringLiteral a) e = absurd cc
symbol_mark t (tok.CharLiteral a) e = absurd cc
symbol_mark t (tok.RegexLiteral a) e = absurd cc
symbol_mark t (tok.EqualsGreaterThanCode a) e = absurd cc
symbol_mark t (tok.EqualsGreaterThanQuestionCode a) e = absurd cc
symbol_mark t (tok.ShebangAttribute a) e = absurd cc
symbol_mark t u e = cc

pub same_mark : (t u : Tok) → token_of t ≡ token_of u → mark_of t ≡ mark_of u
same_mark (tok.Use a) (tok.Use b) e = cc
same_mark (tok.Use a) u e = absurd cc
same_mark (tok.Escape a) (tok.Escape b) e = cc
same_mark (tok.Escape a) u e = absurd cc
same_mark (tok.Id a) (tok.Id b) e = cc
same_mark (tok.Id a) u e = absurd cc
same_mark (tok.MacroId a) (tok.MacroId b) e = cc
same_mark (tok.MacroId a) u e = absurd cc
same_mark (tok.Lifetime a) (tok.Lifetime b) e = cc
same_mark (tok.Lifetime a) u e = absurd cc
same_mark (tok.StringLiteral a) (tok.StringLiteral b) e = cc
same_mark (tok.StringLiteral a) u e = absurd cc
same_mark (tok.CharLiteral a) (tok.CharLiteral b) e = cc
same_mark (tok.CharLiteral a) u e = absurd cc
same_mark (tok.RegexLiteral a) (tok.RegexLiteral b) e = cc
same_mark (tok.RegexLiteral a) u e = absurd cc
same_mark (tok.EqualsGreaterThanCode a) (tok.EqualsGreaterThanCode b) e = cc
same_mark (tok.EqualsGreaterThanCode a) u e = absurd cc
same_mark (tok.EqualsGreaterThanQuestionCode a) (tok.EqualsGreaterThanQuestionCode b) e = cc
same_mark (tok.EqualsGreaterThanQuestionCode a) u e = absurd cc
same_mark (tok.ShebangAttribute a) (tok.ShebangAttribute b) e = cc
same_mark (tok.ShebangAttribute a) u e = absurd cc
same_mark t u e = symbol_mark t u e
