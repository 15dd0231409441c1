-- What the answer takes of counts, and of the start.
use Rattle.std.proofs.Common.{◌≡◌, ℕ, suc, ◌<◌, ◌≤◌, ◌^◌, Bool, true, false, List, [], ◌∷◌, length, map, Option, Some, None, refl, arith}
use Rattle.std.specs.Prelude.{slice_get}
use Rattle.std.specs.BTreeMap.{values}
use Rattle.std.specs.Option.{unwrap_or}
use Rattle.std.proofs.lemmas.Option.{slice_get_within}
use Rattle.lp_repr.specs.Names.{same_nonterminal}
use Rattle.lp_repr.specs.Numbering.{nonterminal_number, nonterminals_of, productions_of}
use Rattle.lp_repr.specs.declared.lr1.Lr1State.{Lr1State}
use Rattle.lp_repr.specs.declared.repr.Grammar.{Grammar}
use Rattle.lp_repr.specs.declared.repr.NonterminalString.{NonterminalString}
use Rattle.lp_repr.specs.declared.repr.Production.{Production}
use Rattle.lp_table.specs.MachineLines.{reduced_of}
use Rattle.lp_table.specs.Starts.{Start, is_start, start_for}
use Rattle.lp_turn_laws.proofs.Paths.Numbered.{mapped_at}
use Rattle.lp_turn_laws.proofs.Paths.Starts.{found_at}
use Rattle.lp_question_laws.proofs.Gotos.Simulate.{AllSmall, IsSmall, reductions}
use Rattle.lp_question_laws.proofs.Expected.Rules.{printed_reduction}

-- the start of a number stands among the starts
pub start_begins : (g : Grammar) (start : ℕ) (names : NonterminalString × NonterminalString) → slice_get g.start_nonterminals.entries start ≡ Some names → slice_get (values g.start_nonterminals) start ≡ Some (start_for g names.0 names.1).nonterminal
start_begins g start names at = mapped_at (λ (x : NonterminalString × NonterminalString). x.1) g.start_nonterminals.entries start names at

module _ (g : Grammar) (states : List Lr1State) (st : Start) (few : length (nonterminals_of g) ≤ 2 ^ 64) where
  number_small : (name : NonterminalString) (o : Option ℕ) → nonterminal_number g name ≡ o → unwrap_or o 0 < 2 ^ 64
  number_small name None is = omega arith
  number_small name (Some k) is =
      let f = found_at (same_nonterminal name) 0 (nonterminals_of g) k is in
      let within : f.0 < length (nonterminals_of g) = slice_get_within (nonterminals_of g) f.0 f.1 f.3 in
      omega (arith, f.2)

  reduction_small : (p : Production) (b : Bool) → length p.symbols < 2 ^ 64 → IsSmall (printed_reduction p (nonterminal_number g p.nonterminal) b)
  reduction_small p true less = tt
  reduction_small p false less = (less, number_small p.nonterminal (nonterminal_number g p.nonterminal) refl)

  all_small : (ps : List Production) → ((n : ℕ) (p : Production) → slice_get ps n ≡ Some p → length p.symbols < 2 ^ 64) → AllSmall (map (reduced_of g st) ps)
  all_small [] less = tt
  all_small (p ∷ ps) less = (reduction_small p (is_start st p) (less 0 p refl), all_small ps (λ n. less (suc n)))

  -- what reductions pop and produce are numbers of type `usize`
  pub reductions_small : ((n : ℕ) (p : Production) → slice_get (productions_of g) n ≡ Some p → length p.symbols < 2 ^ 64) → AllSmall (reductions g states st)
  reductions_small less = all_small (productions_of g) less
