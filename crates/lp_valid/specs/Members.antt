-- Sets of references.
use Rattle.std.specs.Prelude.{Bool}
use Rattle.std.specs.List.{list_any}
use Rattle.std.specs.BTreeSet.{BTreeSet}
use Rattle.std.specs.Ordering.{nat_cmp, is_eq}
use Rattle.std.specs.declared.cmp.Ordering.{Ordering}
use Rattle.std.specs.Cmp.Lexicographic.{slice_cmp}
use denote.Ref.{Bor}
use Rattle.lp_repr.specs.Names.{same_terminal}
use Rattle.lp_repr.specs.declared.repr.NonterminalString.{NonterminalString}
use Rattle.lp_repr.specs.declared.repr.TerminalString.{TerminalString}

-- the set has a thing that compares equal
abbrev pub has_by : {X : Type 0} → (X → X → Ordering) → BTreeSet (Bor X) → X → Bool
has_by cmp s x = list_any (λ k. is_eq (cmp x k.now)) s.keys

-- the set has the nonterminal
abbrev pub has : BTreeSet (Bor NonterminalString) → NonterminalString → Bool
has s n = has_by (λ a b. slice_cmp nat_cmp a.0 b.0) s n

-- the set has the terminal
abbrev pub holds : BTreeSet (Bor TerminalString) → TerminalString → Bool
holds s t = list_any (λ k. same_terminal t k.now) s.keys
