-- From tokens to numbers of terminals and to symbols.
use Rattle.std.proofs.Common.{ℕ, ◌+◌, List, [], ◌∷◌, map, Option, Some, None, refl}
use Rattle.lp_form.specs.Classes.{members_of}
use Rattle.lp_form.specs.Templates.{steps_of, holes_of}
use Rattle.lp_form.specs.declared.class.Class.TheVariants as class
use Rattle.lp_form.specs.declared.part.Part.TheVariants as part
use Rattle.lp_form.specs.declared.template.Step.TheVariants as step
use Rattle.lp_repr.specs.Numbering.{terminals_of}
use Rattle.lp_repr.specs.declared.repr.Grammar.{Grammar}
use Rattle.lp_repr.specs.declared.repr.TerminalString.{TerminalString}
use Rattle.lp_repr.specs.declared.repr.TokenPattern.{TokenPattern}
use Rattle.lp_build.specs.Tables.{symbol_row}
use Rattle.lp_build.specs.declared.functions.FunctionName.TheVariants as name
use Rattle.lp_parts.specs.Texts.{symbol_text}
use Rattle.lp_table.specs.Headers.{clauses_of, generics_of}
use Rattle.lp_table.specs.MachineLines.{phantom_parameter}
use Rattle.lp_table.specs.Pieces.{variant_text}
use Rattle.lp_table.specs.TokenLines.{Known, captured_value, group_arm, group_patterns, groups_of, in_group, integer_row, integer_rows, known_terminals, number_of, number_type, own_pattern, token_index, token_numbers, token_reference, token_symbols, token_value}
use Rattle.lp_table.specs.declared.tokens.Group.{Group}
use Rattle.lp_emitted.proofs.Headers.{header_one}
use Rattle.lp_emitted.proofs.Rows.{Told, Takes, beside, many_flat, many_more, many_none, many_one, one_leaf, over_one}

integer_many : {T : Told} (n : ℕ) (p : Option TokenPattern) → Takes T (step.Many class.IntegerRow ∷ []) (integer_row n p)
unfolding steps_of holes_of members_of
integer_many n None = many_none class.IntegerRow
integer_many n (Some p) = many_one (one_leaf class.IntegerRow part.IntegerRow _ _ refl)

integers_many : {T : Told} (g : Grammar) (n : ℕ) (ts : List TerminalString) → Takes T (step.Many class.IntegerRow ∷ []) (integer_rows g n ts)
integers_many g n [] = many_none class.IntegerRow
integers_many g n (t ∷ ts) = many_more (integer_many n (own_pattern g t)) (integers_many g (n + 1) ts)

pub token_numbers_one : {T : Told} (g : Grammar) → Takes T (step.One class.TokenToInteger ∷ []) (token_numbers g)
unfolding steps_of holes_of members_of token_numbers
token_numbers_one g = over_one class.TokenToInteger part.TokenToInteger {holes = []} refl refl
    (beside (header_one class.HeaderTokenToInteger name.TokenToInteger (generics_of g) (token_reference g ∷ phantom_parameter g ∷ []) number_type (clauses_of g) refl)
    (integers_many g 0 (terminals_of g)))

symbol_one : {T : Told} (terminals : List ℕ) (patterns : List (List ℕ)) (variant captures : List ℕ) → Takes T (step.One class.SymbolArm ∷ []) (symbol_row terminals patterns variant captures)
unfolding steps_of holes_of members_of
symbol_one terminals [] variant captures = one_leaf class.SymbolArm part.SymbolArm _ _ refl
symbol_one terminals (p ∷ ps) variant captures = one_leaf class.SymbolArm part.SymbolMatch _ _ refl

group_many : {T : Told} (prefix : List ℕ) (known : List Known) (group : Group) → Takes T (step.Many class.SymbolArm ∷ []) (group_arm prefix known group)
group_many prefix known group = many_one (symbol_one (map number_of (in_group group known)) (group_patterns prefix group.captures (in_group group known)) (variant_text group.variant) (captured_value prefix group.captures))

pub token_symbols_one : {T : Told} (g : Grammar) → Takes T (step.One class.TokenToSymbol ∷ []) (token_symbols g)
unfolding steps_of holes_of members_of token_symbols
token_symbols_one g = over_one class.TokenToSymbol part.TokenToSymbol {holes = []} refl refl
    (beside (header_one class.HeaderTokenToSymbol name.TokenToSymbol (generics_of g) (token_index g ∷ token_value g ∷ phantom_parameter g ∷ []) (symbol_text g) (clauses_of g) refl)
    (many_flat class.SymbolArm (group_arm g.prefix (known_terminals g)) (group_many g.prefix (known_terminals g)) (groups_of (known_terminals g))))
