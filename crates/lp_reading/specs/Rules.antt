-- Rules.
use Rattle.std.specs.Prelude.{ℕ, Bool, true, false, List, [], ◌∷◌, Option, Some, None}
use Rattle.lp_repr.specs.declared.consts.TheConstants.{INLINE}
use Rattle.lp_repr.specs.declared.repr.NonterminalString.{NonterminalString}
use Rattle.lp_repr.specs.TypeTrees.{TypeTree, type_tree}
use Rattle.lp_syntax.specs.declared.plain.PlainAlternative.{PlainAlternative}
use Rattle.lp_syntax.specs.declared.plain.PlainRule.{PlainRule}
use Rattle.lp_tok.specs.declared.tok.Tok.TheVariants.{LeftBrace, RightBrace, LeftBracket, RightBracket, Colon, Equals, Semi, Pub, Hash}
use Rattle.lp_types.specs.declared.texts.Kind.TheVariants as kind
use Rattle.lp_types.specs.Reading.{Reading, ◌>>=◌, give, where_next, expected, expected_word, text, passed, repeated, listed, next_place, seen_text}
use Rattle.lp_types.specs.Types.{full_type}
use Rattle.lp_reading.specs.Symbols.{alternative}

-- a rule, with the tree of its type
pub record RuleTree : Type 0 where
  pub public : Bool
  pub inline : Bool
  pub name : NonterminalString
  pub ty : TypeTree
  pub alternatives : List PlainAlternative
  pub place : ℕ

abbrev pub rule_tree : PlainRule → RuleTree
rule_tree r = record { public = r.public; inline = r.inline; name = r.name; ty = type_tree r.ty; alternatives = r.alternatives; place = r.place }

-- alternatives between commas, up to `}`
unfoldable pub alternatives : Reading (List PlainAlternative)
alternatives = repeated (listed RightBrace alternative)

-- what follows `{`: alternatives, `}`, and a `;` that may be there
unfoldable pub braced : Reading (List PlainAlternative)
braced = alternatives >>= λ found. passed Semi >>= λ _. give found

-- one alternative and `;`
unfoldable pub single : Reading (List PlainAlternative)
single = alternative >>= λ one. expected Semi >>= λ _. give (one ∷ [])

-- what follows `=`: alternatives in braces, or one with `;`
unfoldable pub rule_body : Reading (List PlainAlternative)
rule_body = where_next LeftBrace braced single

-- a rule from its name on: whether `pub` or `#[inline]` stands before it is known
unfoldable pub rule : Bool → Bool → Reading RuleTree
rule public inline =
    next_place >>= λ at. text kind.Id >>= λ name. expected Colon >>= λ _. full_type >>= λ t. expected Equals >>= λ _. rule_body >>= λ found.
    give (record { public = public; inline = inline; name = record { 0 = name }; ty = t; alternatives = found; place = at })

-- a rule, where one comes
unfoldable pub some_rule : Bool → Bool → Reading (Option RuleTree)
some_rule public inline = rule public inline >>= λ r. give (Some r)

-- what follows the `#` of `#[inline]`, and its rule
unfoldable pub inline_rule : Reading (Option RuleTree)
inline_rule = expected LeftBracket >>= λ _. expected_word INLINE.now >>= λ _. expected RightBracket >>= λ _. some_rule false true

abbrev pub private_or_none : Option (List ℕ) → Reading (Option RuleTree)
private_or_none (Some name) = some_rule false false
private_or_none None = give None

-- a rule with nothing before it, or none where no name comes
unfoldable pub private_rule : Reading (Option RuleTree)
private_rule = seen_text kind.Id >>= private_or_none

-- the next rule, with `#[inline]`, `pub` or nothing before it, or none where no rule begins
unfoldable pub next_rule : Reading (Option RuleTree)
next_rule = where_next Hash inline_rule (where_next Pub (some_rule true false) private_rule)

-- rules, up to a token that begins none
unfoldable pub rules : Reading (List RuleTree)
rules = repeated next_rule
