-- Which arm of a loop over gotos a symbol chooses: that of its nonterminal's goto, or without one the last body.
use Rattle.std.proofs.Common.{◌≡◌, ℕ, zero, suc, ◌+◌, ◌<◌, Bool, true, false, cond, List, [], ◌∷◌, length, Option, Some, slice_get, refl, sym, ap, ◌∙◌, subst, arith}
use Rattle.std.specs.BTreeMap.{get}
use Rattle.std.specs.Map.{lookup}
use Rattle.std.specs.Ordering.{nat_cmp, eq_by_cmp}
use Rattle.std.proofs.lemmas.Bool.Decides.{nat_tests}
use Rattle.std.proofs.lemmas.Option.{slice_get_within, same_Some, none-some}
use Rattle.lp_repr.specs.Numbering.{nonterminals_of}
use Rattle.lp_repr.specs.declared.lr1.Lr1State.{Lr1State}
use Rattle.lp_repr.specs.declared.numbering.SymbolNumber.TheVariants.{Nonterminal}
use Rattle.lp_repr.specs.declared.repr.Grammar.{Grammar}
use Rattle.lp_repr.specs.declared.repr.NonterminalString.{NonterminalString}
use Rattle.lp_core.specs.declared.value.Tag.TheVariants as tag
use Rattle.lp_core.specs.CaseMeaning.{chosen, last_body}
use Rattle.lp_core.specs.Reading.{wrapped}
use Rattle.lp_core.specs.Store.{Program}
use Rattle.lp_core.specs.Val.{Val}
use Rattle.lp_machine.specs.Tables.{Tables}
use Rattle.lp_maker.specs.Making.{Making, number_in, with_variant}
use Rattle.lp_code_laws.proofs.Slots.Slots.{get_within}
use Rattle.lp_turn_laws.specs.Paths.Over.{IsOver}
use Rattle.lp_turn_laws.specs.Paths.Walks.{edge_from, edge_at}
use Rattle.lp_turn_laws.proofs.Paths.Reductions.{at_within}
use Rattle.lp_ascent_bodies.specs.declared.ascent.Lines.{Lines as Shared}
use Rattle.lp_ascent_bodies.specs.AscentGotos.{Going}
use Rattle.lp_ascent.specs.AnswerLines.{answer_name, answer_names}
use Rattle.lp_ascent.specs.GotoLines.{named_gotos}
use Rattle.lp_ascent.specs.Slots.{Layout}
use Rattle.lp_back_end_laws.proofs.Call.GoingOn.{key_found, goto_in_range, goto_row, goto_rows_count}
use Rattle.lp_back_end_laws.proofs.Call.GotoArms.{variant_tests, variant_chosen, variant_unknown}
use Rattle.lp_back_end_laws.proofs.Call.Layouts.{same_key}
use Rattle.lp_back_end_laws.proofs.Call.LoopArms.{ArmHere, after_arms, arm_here, numbers}

-- ---- the entry of a goto
-- the entry that is looked up is the first of its key
pub record First (es : List (ℕ × ℕ)) (n to : ℕ) : Type 0 where
  pub place : ℕ
  pub at : slice_get es place ≡ Some (n, to)
  pub others : (j m x : ℕ) → j < place → slice_get es j ≡ Some (m, x) → n ≡ m → ⊥

first_of_all : (es : List (ℕ × ℕ)) (n m to : ℕ) → n ≡ m → First ((m, to) ∷ es) n to
first_of_all es n m to is = record { place = 0; at = ap (λ (k : ℕ). Some (k, to)) (sym is); others = λ j k x less e same. omega (arith, less) }

key_same : (n m : ℕ) → n ≡ m → eq_by_cmp nat_cmp n m ≡ true
key_same n m e = grind (arith, nat_tests)

one_later : (x : ℕ × ℕ) (es : List (ℕ × ℕ)) (n to : ℕ) → eq_by_cmp nat_cmp n x.0 ≡ false → First es n to → First (x ∷ es) n to
one_later x es n to other f = record { place = suc f.place; at = f.at; others = others }
  where
    others : (j m y : ℕ) → j < suc f.place → slice_get (x ∷ es) j ≡ Some (m, y) → n ≡ m → ⊥
    others zero m y less e same =
        let bad : false ≡ true = sym other ∙ key_same n x.0 (same ∙ sym (ap (λ (z : ℕ × ℕ). z.0) (same_Some x (m, y) e))) in
        cc
    others (suc j) m y less e same = f.others j m y (omega (arith, less)) e same

pub first_entry : (es : List (ℕ × ℕ)) (n to : ℕ) → lookup (eq_by_cmp nat_cmp n) es ≡ Some to → First es n to
first_entry [] n to e = absurd (none-some to e)
first_entry (x ∷ es) n to e =
    elim (eq_by_cmp nat_cmp n x.0) as (λ (b : Bool). eq_by_cmp nat_cmp n x.0 ≡ b → cond b (Some x.1) (lookup (eq_by_cmp nat_cmp n) es) ≡ Some to → First (x ∷ es) n to) [
      | true ↦ λ f h. subst (λ (y : ℕ). First (x ∷ es) n y) (same_Some x.1 to h) (first_of_all es n x.0 x.1 (same_key n x.0 f))
      | false ↦ λ f h. one_later x es n to f (first_entry es n to h)
    ] refl e

numbers_count : (m : Making) (gotos : List (List ℕ × ℕ)) → length (numbers m gotos) ≡ length gotos
numbers_count m [] = refl
numbers_count m (x ∷ gotos) = ap suc (numbers_count (with_variant x.0 m) gotos)

-- an entry leads on
pub entry_leads : (states : List Lr1State) (q : ℕ) (s : Lr1State) → slice_get states q ≡ Some s → (i n to : ℕ) → slice_get s.gotos.entries i ≡ Some (n, to) → (x : ℕ) × (edge_at states q (Nonterminal n) ≡ Some x)
entry_leads states q s at i n to e = let w = key_found s.gotos.entries i n to e in (w.0, ap (λ (o : Option Lr1State). edge_from o (Nonterminal n)) at ∙ w.1)

-- ---- of a state
module _ {g : Grammar} {start : ℕ} {states : List Lr1State} {t : Tables} (over : IsOver g start states t) (q : ℕ) (s : Lr1State) (at : slice_get states q ≡ Some s) (variant : ℕ → ℕ) (ls : List Layout) (l : Layout) (shared : Shared) (token made : ℕ) (before : Going) where
  abbrev pub gotos : List (List ℕ × ℕ)
  gotos = named_gotos (answer_names g) s.gotos.entries

  abbrev pub all_arms : Going
  all_arms = after_arms g ls l shared token made before gotos

  module _ (variants : (n k : ℕ) (name : NonterminalString) → slice_get (nonterminals_of g) n ≡ Some name → number_in (answer_name name) all_arms.made.variants ≡ Some k → variant n ≡ k) where
    -- the arm of an entry, whose test is for the variant of its nonterminal
    pub record EntryArm (i n to : ℕ) : Type 0 where
      pub name : NonterminalString
      pub arm : ArmHere g ls l shared token made before gotos i (answer_name name, to)
      pub tested : slice_get (numbers before.made gotos) i ≡ Some (variant n)

    pub entry_arm : (i n to : ℕ) → slice_get s.gotos.entries i ≡ Some (n, to) → EntryArm i n to
    entry_arm i n to e =
        let name = at_within (nonterminals_of g) n (goto_in_range over q s at i n to e) in
        let arm = arm_here g ls l shared token made before gotos i (answer_name name.0, to) (goto_row over q s at i n to name.0 e name.1) in
        record { name = name.0; arm = arm; tested = arm.tested ∙ ap Some (sym (variants n arm.number name.0 name.1 arm.numbered)) }

    -- each test is that of an entry
    pub record TestOf (j x : ℕ) : Type 0 where
      pub nonterminal : ℕ
      pub to : ℕ
      pub entry : slice_get s.gotos.entries j ≡ Some (nonterminal, to)
      pub within : nonterminal < length (nonterminals_of g)
      pub is : variant nonterminal ≡ x

    pub test_of : (j x : ℕ) → slice_get (numbers before.made gotos) j ≡ Some x → TestOf j x
    test_of j x e =
        let less = slice_get_within (numbers before.made gotos) j x e in
        let w = get_within s.gotos.entries j (omega (arith, less, numbers_count before.made gotos, goto_rows_count over q s at)) in
        let a = entry_arm j (w.0).0 (w.0).1 w.1 in
        record { nonterminal = (w.0).0; to = (w.0).1; entry = w.1; within = goto_in_range over q s at j (w.0).0 (w.0).1 w.1; is = same_Some (variant (w.0).0) x (sym a.tested ∙ e) }

    module _ (apart : (i j : ℕ) → i < length (nonterminals_of g) → j < length (nonterminals_of g) → variant i ≡ variant j → i ≡ j) (p : Program) (bodies n : ℕ) (v : Val) where
      -- a nonterminal's goto has the arm that is chosen
      pub record Chosen (to : ℕ) : Type 0 where
        pub place : ℕ
        pub name : NonterminalString
        pub arm : ArmHere g ls l shared token made before gotos place (answer_name name, to)
        pub is : chosen p (variant_tests 0 (numbers before.made gotos)) bodies (wrapped (tag.Variant (variant n)) v) ≡ Some place

      pub goto_chosen : (to : ℕ) → edge_at states q (Nonterminal n) ≡ Some to → Chosen to
      goto_chosen to edge =
          let e : get nat_cmp s.gotos n ≡ Some to = sym (ap (λ (o : Option Lr1State). edge_from o (Nonterminal n)) at) ∙ edge in
          let f = first_entry s.gotos.entries n to e in
          let a = entry_arm f.place n to f.at in
          record {
            place = f.place;
            name = a.name;
            arm = a.arm;
            is = variant_chosen p bodies (variant n) v (numbers before.made gotos) 0 f.place a.tested (λ j x less is same.
                let r = test_of j x is in
                f.others j r.nonterminal r.to less r.entry (apart n r.nonterminal (goto_in_range over q s at f.place n to f.at) r.within (same ∙ sym r.is)))
                ∙ ap Some (let none : 0 + f.place ≡ f.place = omega arith in none);
          }

      -- a nonterminal without a goto has none
      pub other_chosen : n < length (nonterminals_of g) → ((to : ℕ) → edge_at states q (Nonterminal n) ≡ Some to → ⊥) → chosen p (variant_tests 0 (numbers before.made gotos)) bodies (wrapped (tag.Variant (variant n)) v) ≡ last_body bodies
      other_chosen within none = variant_unknown p bodies (variant n) v (numbers before.made gotos) 0 (λ j x is same.
          let r = test_of j x is in
          let e : n ≡ r.nonterminal = apart n r.nonterminal within r.within (same ∙ sym r.is) in
          let w = entry_leads states q s at j r.nonterminal r.to r.entry in
          none w.0 (ap (λ (m : ℕ). edge_at states q (Nonterminal m)) e ∙ w.1))
