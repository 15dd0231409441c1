-- Where the parsers of both back ends end, they end alike, since both end as the stack machine does.
use Rattle.std.proofs.Common.{◌≡◌, ℕ, ◌+◌, ◌-◌, ◌<◌, ◌≤◌, List, map, Some, sym, ap, ◌∙◌, ⊎_elim, arith}
use Rattle.std.proofs.Math.ListN.{get_or}
use Rattle.std.proofs.lemmas.Bool.{cases_lt}
use Rattle.std.proofs.lemmas.Option.{same_Some}
use Rattle.lp_repr.specs.declared.lr1.Lr1State.{Lr1State}
use Rattle.lp_repr.specs.declared.repr.Algorithm.{Algorithm}
use Rattle.lp_repr.specs.declared.repr.Grammar.{Grammar}
use Rattle.lp_repr.specs.declared.values.RunItem.{RunItem}
use Rattle.lp_repr.specs.declared.values.RunItem.TheVariants as item
use Rattle.lp_driver.specs.declared.answers.Expecting.{Expecting}
use Rattle.lp_driver.specs.declared.answers.Expecting.TheVariants.{Trial}
use Rattle.lp_driver.specs.Values.{Text, Ending}
use Rattle.lp_core.specs.Store.{UserCall}
use Rattle.lp_machine.specs.declared.config.Config.{Config}
use Rattle.lp_machine.specs.GrammarTables.{grammar_tables}
use Rattle.lp_machine.specs.Move.{moves}
use Rattle.lp_machine.specs.Moves.{first}
use Rattle.lp_machine.specs.RunEnds.{ended}
use Rattle.lp_machine.specs.Tables.{Tables}
use Rattle.lp_machine.proofs.MoreMoves.{moves_after}
use Rattle.lp_machine.proofs.RunMoves.{over_stays}
use Rattle.lp_agrees.specs.Agrees.{EndsSo}
use Rattle.lp_agrees.specs.Machine.{as_user, MatchesOne}
use Rattle.lp_round_trip.specs.BackEnds.{AreAlike, BackEndsAgree}
use Rattle.lp_round_trip.proofs.Law.{emission_agrees_as_read}

-- a machine that is over stays as it is
same_end : (t : Tables) (items : List RunItem) (c : Config) (m n : ℕ) (e : Ending) → m ≤ n → ended (moves t items m c).left ≡ Some e → moves t items n c ≡ moves t items m c
same_end t items c m n e le is =
    let more : m + (n - m) ≡ n = omega (arith, le) in
    ap (λ k. moves t items k c) (sym more) ∙ moves_after t items m (n - m) c ∙ over_stays t items (n - m) (moves t items m c) e is

module _ (g : Grammar) (states : List Lr1State) (expecting : Expecting) (items : List RunItem) (params : List Text) (failing : List ℕ) where
  abbrev t : Tables
  t = grammar_tables g states expecting params failing

  abbrev at_end : ℕ → Config
  at_end m = moves t items m (first t items)

  -- it has one end
  one_end : (e other : Ending) (calls others : List UserCall) → EndsSo g states expecting items params failing e calls → EndsSo g states expecting items params failing other others → AreAlike e other calls others
  one_end e other calls others a b = alike same
    where
      same : at_end a.0 ≡ at_end b.0
      same = ⊎_elim (λ (less : a.0 < b.0). sym (same_end t items (first t items) a.0 b.0 e (omega (arith, less)) a.1)) (λ (le : b.0 ≤ a.0). same_end t items (first t items) b.0 a.0 other le b.1) (cases_lt a.0 b.0)

      alike : at_end a.0 ≡ at_end b.0 → AreAlike e other calls others
      alike is = record {
        same_ending = same_Some e other (sym a.1 ∙ ap (λ (c : Config). ended c.left) is ∙ b.1);
        same_calls = sym a.2 ∙ ap (λ (c : Config). map as_user c.calls) is ∙ b.2;
      }

-- a token matches the same terminals whatever code is asked for
matches_too : (g : Grammar) (code : Algorithm) (x : RunItem) → MatchesOne g x → MatchesOne (record g { algorithm = code }) x
matches_too g code (item.Fault name) one = tt
matches_too g code (item.Token a token b) one = λ i j p q. one i j (record { terminal = p.terminal; there = p.there; form = p.form }) (record { terminal = q.terminal; there = q.there; form = q.form })

pub back_ends_agree : BackEndsAgree
back_ends_agree g code other_code states options other_options text other e other_e i names list at has items params failing budget other_budget many known read other_read is other_is end other_end calls others steps other_steps runs other_runs =
    one_end g list.states Trial items params failing end other_end calls others
    (emission_agrees_as_read (record g { algorithm = code }) states options text e read is.1 i names list at has items params failing budget many (λ k x less. matches_too g code (get_or items k x) (known k x less)) _ runs)
    (emission_agrees_as_read (record g { algorithm = other_code }) states other_options other other_e other_read other_is.1 i names list at has items params failing other_budget many (λ k x less. matches_too g other_code (get_or items k x) (known k x less)) _ other_runs)
