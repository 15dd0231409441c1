-- What a valid grammar says of its names.
use Rattle.std.specs.Prelude.{ℕ, ◌==◌, Bool, true, false, not, ◌&&◌, ◌||◌, List, [], ◌∷◌, drop, codes, is_some, nat_eq}
use Rattle.std.specs.List.{list_any, list_all, starts_with}
use Rattle.std.specs.Str.{chars}
use Rattle.unicode_ident.specs.Ident.{is_xid_start, is_xid_continue}
use Rattle.lp_repr.specs.Names.{same_text}
use Rattle.lp_repr.specs.declared.repr.Grammar.{Grammar}
use Rattle.lp_repr.specs.declared.repr.NonterminalString.{NonterminalString}
use Rattle.lp_repr.specs.declared.repr.ActionFnDefnKind.{ActionFnDefnKind}
use Rattle.lp_repr.specs.declared.repr.ActionFnDefnKind.TheVariants as kind

-- a character with which a word begins: `_` or an XID start
abbrev pub begins_word : ℕ → Bool
begins_word c = (c == 95) || is_xid_start c

-- a word: such a character, and then XID continue characters
abbrev pub is_word : List ℕ → Bool
is_word [] = false
is_word (c ∷ cs) = begins_word c && list_all is_xid_continue cs

-- an identifier is a word, and not `_` alone
abbrev pub is_identifier : List ℕ → Bool
is_identifier name = not (same_text name (codes "_")) && is_word (chars name)

-- the names that no parameter may have
abbrev pub is_reserved : List ℕ → Bool
is_reserved name = same_text name (codes "self") || (same_text name (codes "Self") || (same_text name (codes "super") || (same_text name (codes "crate") || (same_text name (codes "Some") || (same_text name (codes "None") || (same_text name (codes "Ok") || same_text name (codes "Err")))))))

abbrev pub is_parameter_name : List ℕ → Bool
is_parameter_name name = is_identifier name && not (is_reserved name)

-- the name of an argument: `_`, an identifier, or `mut` and an identifier
abbrev pub is_argument_name : List ℕ → Bool
is_argument_name pattern = same_text pattern (codes "_") || (is_identifier pattern || (starts_with nat_eq pattern (codes "mut ") && is_identifier (drop 4 pattern)))

-- a user action's arguments have such names
abbrev pub kind_has_names : ActionFnDefnKind → Bool
kind_has_names (kind.User patterns types code) = list_all is_argument_name patterns
kind_has_names (kind.Lookaround which) = true
kind_has_names (kind.Inline outer parts) = true

-- a public name and its start's name are identifiers
abbrev pub start_has_names : NonterminalString × NonterminalString → Bool
start_has_names e = is_identifier (e.0).0 && is_identifier (e.1).0

-- an interned grammar has a parameter `input`
abbrev pub has_input : Grammar → Bool
has_input g = not (is_some g.intern_token) || list_any (λ p. same_text p.name (codes "input")) g.parameters
