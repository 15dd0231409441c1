-- Where clauses.
use Rattle.std.specs.Prelude.{ℕ, Bool, true, false, not, List, [], ◌∷◌, Option, Some, None, Vec}
use Rattle.std.specs.Borrow.{Bor}
use Rattle.std.specs.Option.{option_map}
use Rattle.std.specs.Global.{Global}
use Rattle.lp_repr.specs.declared.parse_tree.TypeParameter.{TypeParameter}
use Rattle.lp_repr.specs.declared.parse_tree.TypeBound.{TypeBound}
use Rattle.lp_repr.specs.declared.parse_tree.TypeBound.TheVariants as bound
use Rattle.lp_repr.specs.TypeTrees.{TypeTree, lifetime_type, ClauseTree, forall_clause, bound_clause}
use Rattle.lp_tok.specs.declared.tok.Tok.TheVariants.{For, Plus, Comma, Colon, Semi}
use Rattle.lp_types.specs.declared.texts.Kind.TheVariants as kind
use Rattle.lp_types.specs.Left.{Left, token, ends, breaks}
use Rattle.lp_types.specs.Marks.{is_tok}
use Rattle.lp_types.specs.Reading.{Reading, Read, ◌>>=◌, give, choose, where_next, expected, taken, text, passed, chained_by, spread}
use Rattle.lp_types.specs.Types.{full_type}
use Rattle.lp_types.specs.Bounds.{binder, type_bound}

-- a lifetime as a bound
unfoldable pub lifetime_bound : Reading (TypeBound TypeTree)
lifetime_bound = text kind.Lifetime >>= λ name. give (bound.Lifetime name)

-- the names of a binder, where there is one
abbrev pub names_of : Option (Bor (Vec TypeParameter Global)) → Option (List TypeParameter)
names_of names = option_map (λ v. v.now.items) names

-- a bound, and whether another one follows after `+`; of a lifetime each bound is a lifetime
unfoldable pub linked_bound : Bool → Reading (TypeBound TypeTree × Bool)
linked_bound lifetimes = choose lifetimes lifetime_bound type_bound >>= λ b. passed Plus >>= λ more. give (b, more)

-- a clause in a binder, where there is one
abbrev pub in_binder : Option (List TypeParameter) → ClauseTree → ClauseTree
in_binder None clause = clause
in_binder (Some names) clause = forall_clause names clause

-- the clause of a bound, in a binder, as a list
abbrev pub bound_clauses : Option (List TypeParameter) → TypeTree → TypeBound TypeTree → List ClauseTree
bound_clauses names subject b = in_binder names (bound_clause subject b) ∷ []

-- what follows a subject: `:` and bounds with `+` between, a clause per bound
unfoldable pub subject_clauses : Option (List TypeParameter) → TypeTree → Bool → Reading (List ClauseTree)
subject_clauses names subject lifetimes = expected Colon >>= λ _. chained_by (bound_clauses names subject) (linked_bound lifetimes)

-- `T: bounds`, in a binder, where there is one
unfoldable pub type_clauses : Option (List TypeParameter) → Reading (List ClauseTree)
type_clauses names = full_type >>= λ subject. subject_clauses names subject false

-- `T: bounds` or `for<..> T: bounds`
unfoldable pub other_clauses : Reading (List ClauseTree)
other_clauses = where_next For (binder >>= λ names. type_clauses (Some names)) (type_clauses None)

abbrev pub lifetime_or_type_clauses : Option (List ℕ) → Reading (List ClauseTree)
lifetime_or_type_clauses (Some name) = subject_clauses None (lifetime_type name) true
lifetime_or_type_clauses None = other_clauses

-- a clause: `'a: 'b + 'c`, `T: bounds` or `for<..> T: bounds`, as one clause per bound
unfoldable pub clause : Reading (List ClauseTree)
clause = taken kind.Lifetime >>= lifetime_or_type_clauses

-- whether another clause can follow: neither `;` nor the end of the text comes
abbrev pub goes_on : Left → Bool
goes_on (ends n) = false
goes_on (breaks e) = true
goes_on (token from t to rest) = not (is_tok Semi (Some t))

abbrev pub seen_more : Reading Bool
seen_more ts = Read (goes_on ts) ts

-- whether another clause follows: a `,` comes, which is passed, and a clause can follow
unfoldable pub more_clauses : Reading Bool
more_clauses = where_next Comma seen_more (give false)

-- a clause, and whether another one follows
unfoldable pub linked_clause : Reading (List ClauseTree × Bool)
linked_clause = clause >>= λ found. more_clauses >>= λ more. give (found, more)

-- where clauses between commas, at least one; a `,` may stand behind the last
unfoldable pub clauses : Reading (List ClauseTree)
clauses = spread linked_clause
