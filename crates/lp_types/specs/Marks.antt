-- Tokens as a reader sees them: texts are compared by their bytes.
use Rattle.std.specs.Prelude.{ℕ, Bool, false, List, Option, Some, None, if◌then◌else◌}
use Rattle.lp_tok.specs.declared.tok.Tok.{Tok}
use Rattle.lp_tok.specs.declared.tok.Tok.TheVariants as tok
use Rattle.lp_tok.specs.contracts.tok.TokPartialEq.TheImpl as equality
use Rattle.lp_types.specs.contracts.texts.KindPartialEq.TheImpl as kinds
use Rattle.lp_types.specs.declared.texts.Kind.{Kind}
use Rattle.lp_types.specs.declared.texts.Kind.TheVariants as kind

-- a token that has no text, or one of the kinds that have, with its text
pub data Mark : Type 0 where
  Plain : Tok → Mark
  With : Kind → List ℕ → Mark

abbrev pub mark_of : Tok → Mark
mark_of (tok.Use t) = With kind.Use t.now
mark_of (tok.Escape t) = With kind.Escape t.now
mark_of (tok.Id t) = With kind.Id t.now
mark_of (tok.MacroId t) = With kind.MacroId t.now
mark_of (tok.Lifetime t) = With kind.Lifetime t.now
mark_of (tok.StringLiteral t) = With kind.StringLiteral t.now
mark_of (tok.CharLiteral t) = With kind.CharLiteral t.now
mark_of (tok.RegexLiteral t) = With kind.RegexLiteral t.now
mark_of (tok.EqualsGreaterThanCode t) = With kind.Code t.now
mark_of (tok.EqualsGreaterThanQuestionCode t) = With kind.FallibleCode t.now
mark_of (tok.ShebangAttribute t) = With kind.Attribute t.now
mark_of t = Plain t

-- when two tokens are the same
abbrev pub tok_eq : Tok → Tok → Bool
tok_eq = (equality.ghosts).eq

-- when two kinds are the same
abbrev pub kind_eq : Kind → Kind → Bool
kind_eq = (kinds.ghosts).eq

-- the token is there, and is this one, which has no text
abbrev pub is_tok : Tok → Option Mark → Bool
is_tok t None = false
is_tok t (Some (Plain u)) = tok_eq u t
is_tok t (Some (With kind text)) = false

-- the kind and the text of a token that has one
abbrev pub texted : Mark → Option (Kind × List ℕ)
texted (Plain t) = None
texted (With kind text) = Some (kind, text)

-- the text, where it is one of this kind
abbrev pub text_if : Kind → Option (Kind × List ℕ) → Option (List ℕ)
text_if k None = None
text_if k (Some p) = if kind_eq k p.0 then Some p.1 else None

-- the text of a token of this kind
abbrev pub text_of : Kind → Option Mark → Option (List ℕ)
text_of k None = None
text_of k (Some m) = text_if k (texted m)
