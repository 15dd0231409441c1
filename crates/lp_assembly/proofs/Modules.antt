-- The modules of one start more, and its states.
use Rattle.std.proofs.Common.{◌≡◌, ℕ, suc, ◌+◌, ◌<◌, length, map, option_map, refl, ap, ◌∙◌, List, All, Option, Some, None, IfSome, get_or, slice_get, subst, sym, arith}
use Rattle.std.specs.Prelude.{option_copied}
use Rattle.std.specs.Borrow.{Bor}
use Rattle.std.specs.Map.Iter.{deref_pair}
use Rattle.std.specs.Slice.{IsItemAt}
use Rattle.std.proofs.lemmas.List.Elements.{All-get_or}
use Rattle.std.proofs.lemmas.Option.{get_or_from_slice_get, slice_get-get_or, slice_get-map, slice_get_past, slice_get_read, slice_get_within}
use Rattle.lp_repr.specs.declared.lr1.StartStates.{StartStates}
use Rattle.lp_repr.specs.declared.repr.Grammar.{Grammar}
use Rattle.lp_repr.specs.declared.repr.NonterminalString.{NonterminalString}
use Rattle.lp_tree.specs.ProgramTree.{Item}
use Rattle.lp_parts.specs.Entries.{EntriesFit}
use Rattle.lp_assembly.specs.Built.{AllFit, AreFollowed, AreModules}

pub modules_more :
    (g : Grammar) (states : List StartStates) (n : ℕ) (before lines : List Item)
    (names : Option (NonterminalString × NonterminalString)) (list : Option StartStates) →
    slice_get g.start_nonterminals.entries n ≡ names → slice_get states n ≡ list →
    AreModules g states n before → AreFollowed g n names list before lines → AreModules g states (n + 1) lines
modules_more g states n before lines names list named listed h f =
    let e : suc n ≡ n + 1 = omega arith in
    let one : AreFollowed g n (slice_get g.start_nonterminals.entries n) list before lines = subst (λ x. AreFollowed g n x list before lines) (sym named) f in
    let two : AreFollowed g n (slice_get g.start_nonterminals.entries n) (slice_get states n) before lines = subst (λ x. AreFollowed g n (slice_get g.start_nonterminals.entries n) x before lines) (sym listed) one in
    subst (λ k. AreModules g states k lines) e (before, h, two)

-- where the entries of all states fit, those of a list do that is there
pub list_fits : (states : List StartStates) (n : ℕ) (list : Option (Bor StartStates)) → slice_get states n ≡ option_copied list → AllFit states → IfSome list (λ l. All EntriesFit l.now.states)
list_fits states n None e fits = tt
list_fits states n (Some l) e fits =
    let is : get_or states n l.now ≡ l.now = get_or_from_slice_get states n l.now l.now e in
    subst (λ (x : StartStates). All EntriesFit x.states) is (All-get_or (λ (x : StartStates). All EntriesFit x.states) states n l.now (slice_get_within states n l.now e) fits)

-- a list that is looked up, and the names of a start
pub looked_up : (states : List StartStates) (n : ℕ) (found : Option (Bor StartStates)) → IsItemAt states n found → slice_get states n ≡ option_copied found
looked_up states n None h = slice_get_past states n h.3
looked_up states n (Some l) h = slice_get_read states (length states) n l.now refl h.3.0 h.1

pub named_at : (starts : List (Bor NonterminalString × Bor NonterminalString)) (entries : List (NonterminalString × NonterminalString)) (n : ℕ) (names : Bor NonterminalString × Bor NonterminalString) →
    map deref_pair starts ≡ entries → n < length starts → names ≡ get_or starts n names → slice_get entries n ≡ Some (deref_pair names)
named_at starts entries n names same within is =
    ap (λ (l : List (NonterminalString × NonterminalString)). slice_get l n) (sym same) ∙ slice_get-map deref_pair starts n
    ∙ ap (option_map deref_pair) (slice_get-get_or starts n names within ∙ ap Some (sym is))
