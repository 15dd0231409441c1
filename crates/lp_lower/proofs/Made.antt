-- Productions, names and nonterminals, from their parts.
use Rattle.std.proofs.Common.{◌≡◌, ℕ, List, ap, ◌∙◌}
use Rattle.lp_repr.specs.declared.parse_tree.Visibility.{Visibility}
use Rattle.lp_repr.specs.declared.repr.NonterminalData.{NonterminalData}
use Rattle.lp_repr.specs.declared.repr.NonterminalString.{NonterminalString}
use Rattle.lp_repr.specs.declared.repr.Production.{Production}
use Rattle.lp_repr.specs.declared.repr.Symbol.{Symbol}

abbrev pub named : List ℕ → NonterminalString
named text = record { 0 = text }

abbrev pub made : NonterminalString → List Symbol → ℕ → Production
made name symbols action = record { nonterminal = name; symbols = symbols; action = action }

abbrev pub data_of : Visibility → List Production → NonterminalData
data_of visibility productions = record { visibility = visibility; productions = productions }

pub made_alike : (m n : NonterminalString) (ss ts : List Symbol) (action : ℕ) → m ≡ n → ss ≡ ts → made m ss action ≡ made n ts action
made_alike m n ss ts action p q = ap (λ x. made x ss action) p ∙ ap (λ x. made n x action) q

pub data_alike : (v w : Visibility) (ps qs : List Production) → v ≡ w → ps ≡ qs → data_of v ps ≡ data_of w qs
data_alike v w ps qs p q = ap (λ x. data_of x ps) p ∙ ap (data_of w) q
