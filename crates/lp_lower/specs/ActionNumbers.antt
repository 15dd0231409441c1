-- The numbers of actions: those of the starts, of the lookarounds, and then of the rules in order.
use Rattle.std.specs.Prelude.{ℕ, ◌+◌, Bool, true, false, List, length, sum_by, count_by, Option, None, Some, if◌then◌else◌}
use Rattle.std.specs.List.{list_any}
use Rattle.lp_lower.specs.Naming.{target}
use Rattle.lp_lower.specs.Refusals.{is_inline}
use Rattle.lp_lower.specs.RightSides.{right_sides, inline_sides}
use Rattle.lp_lower.specs.Symbols.{symbols_of}
use Rattle.lp_lower.specs.declared.names.Target.{Target}
use Rattle.lp_lower.specs.declared.names.Target.TheVariants as target_of
use Rattle.lp_syntax.specs.declared.plain.PlainAlternative.{PlainAlternative}
use Rattle.lp_syntax.specs.declared.plain.PlainGrammar.{PlainGrammar}
use Rattle.lp_syntax.specs.declared.plain.PlainKind.{PlainKind}
use Rattle.lp_syntax.specs.declared.plain.PlainKind.TheVariants as kind

abbrev pub is_lookahead : PlainKind → Bool
is_lookahead (kind.Name name) = false
is_lookahead (kind.Terminal text) = false
is_lookahead kind.Lookahead = true
is_lookahead kind.Lookbehind = false
is_lookahead kind.Error = false

abbrev pub is_lookbehind : PlainKind → Bool
is_lookbehind (kind.Name name) = false
is_lookbehind (kind.Terminal text) = false
is_lookbehind kind.Lookahead = false
is_lookbehind kind.Lookbehind = true
is_lookbehind kind.Error = false

abbrev pub is_error : PlainKind → Bool
is_error (kind.Name name) = false
is_error (kind.Terminal text) = false
is_error kind.Lookahead = false
is_error kind.Lookbehind = false
is_error kind.Error = true

-- the lookahead, the lookbehind and the error symbol are used
abbrev pub uses_lookahead : PlainGrammar → Bool
uses_lookahead g = list_any (λ s. is_lookahead s.kind) (symbols_of g)

abbrev pub uses_lookbehind : PlainGrammar → Bool
uses_lookbehind g = list_any (λ s. is_lookbehind s.kind) (symbols_of g)

abbrev pub uses_error : PlainGrammar → Bool
uses_error g = list_any (λ s. is_error s.kind) (symbols_of g)

-- the number of the lookahead's action, of the lookbehind's, and of the first rule's first action
abbrev pub lookahead_action : PlainGrammar → ℕ
lookahead_action g = count_by (λ r. r.public) g.rules

abbrev pub lookbehind_action : PlainGrammar → ℕ
lookbehind_action g = lookahead_action g + (if uses_lookahead g then 1 else 0)

abbrev pub first_action : PlainGrammar → ℕ
first_action g = lookbehind_action g + (if uses_lookbehind g then 1 else 0)

-- what a symbol stands for is replaced
abbrev pub is_replaced_target : PlainGrammar → Option Target → Bool
is_replaced_target g None = false
is_replaced_target g (Some (target_of.Rule n)) = is_inline g.rules n
is_replaced_target g (Some (target_of.Terminal n)) = false
is_replaced_target g (Some target_of.Lookahead) = true
is_replaced_target g (Some target_of.Lookbehind) = true
is_replaced_target g (Some target_of.Error) = false

-- something in an alternative is replaced
abbrev pub is_replaced : PlainGrammar → PlainAlternative → Bool
is_replaced g a = list_any (λ s. is_replaced_target g (target g s.kind)) a.symbols

-- how many actions an alternative has: its user action, and an inline per combination where something is replaced
abbrev pub action_count : PlainGrammar → PlainAlternative → ℕ
action_count g a = 1 + (if is_replaced g a then length (right_sides g (inline_sides g) a) else 0)

-- and these alternatives together
abbrev pub actions_in : PlainGrammar → List PlainAlternative → ℕ
actions_in g as' = sum_by (action_count g) as'
