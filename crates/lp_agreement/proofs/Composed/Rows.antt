-- Forms that stand side by side, and going over them.
use Rattle.std.proofs.Common.{◌≡◌, ℕ, Bool, true, false, List, [], ◌∷◌, ◌++◌, map, Option, Some, None, refl, sym, ap, ◌∙◌, append-nil}
use Rattle.std.specs.Prelude.{if◌then◌else◌}
use Rattle.std.specs.List.{flat_map}
use Rattle.std.specs.Option.{option_or}
use Rattle.std.proofs.lemmas.List.Concat.{flat_map-cons}
use Rattle.lp_form.specs.declared.part.Part.{Part}
use Rattle.lp_tree.specs.ProgramTree.{Item}
use Rattle.lp_build.specs.Built as built
use Rattle.lp_view.specs.PartLists.{Form, parts_of, first_that, first_given}
use Rattle.lp_question_laws.proofs.Gotos.Whole.{IsWhole, AreWhole, flat, parts_over, flat-append, whole-append}

-- these items are forms side by side
pub record AreForms (items : List Item) (forms : List Form) : Type 0 where
  pub are : items ≡ flat forms
  pub whole : AreWhole forms

pub no_form : AreForms [] []
no_form = record { are = refl; whole = tt }

pub one_form : (form : Form) → IsWhole form → AreForms form (form ∷ [])
one_form form whole = record { are = sym (append-nil form); whole = (whole, tt) }

pub forms_then : {xs ys : List Item} {fs gs : List Form} → AreForms xs fs → AreForms ys gs → AreForms (xs ++ ys) (fs ++ gs)
forms_then {xs} {ys} {fs} {gs} a b = record {
  are = ap (λ (t : List Item). t ++ ys) a.are ∙ ap (λ (t : List Item). flat fs ++ t) b.are ∙ sym (flat-append fs gs);
  whole = whole-append fs gs a.whole b.whole;
}

-- a form for each text
pub forms_flat : {A : Type 0} (f : A → Form) → ((a : A) → IsWhole (f a)) → (xs : List A) → AreForms (flat_map f xs) (map f xs)
forms_flat f whole [] = no_form
forms_flat f whole (a ∷ xs) =
    let more = forms_flat f whole xs in
    record { are = flat_map-cons f a xs ∙ ap (λ (t : List Item). f a ++ t) more.are; whole = (whole a, more.whole) }

-- the parts of what stands over them
pub parts_are : {items : List Item} {forms : List Form} (p : Part) (holes : List (List ℕ)) → AreForms items forms → parts_of (built.over p holes items) ≡ forms
parts_are {items} {forms} p holes a = ap (λ (below : List Item). parts_of (built.over p holes below)) a.are ∙ parts_over p holes forms a.whole

-- ---- the first of them
abbrev pub GiveNone : (Form → Option Form) → List Form → Type 0
GiveNone f [] = Unit {0}
GiveNone f (form ∷ forms) = (f form ≡ None) × GiveNone f forms

pub given_behind : (f : Form → Option Form) (front forms : List Form) → GiveNone f front → first_given f (front ++ forms) ≡ first_given f forms
given_behind f [] forms none = refl
given_behind f (form ∷ front) forms none = ap (λ (o : Option Form). option_or o (first_given f (front ++ forms))) none.0 ∙ given_behind f front forms none.1

pub given_front : (f : Form → Option Form) (front forms : List Form) (found : Form) → first_given f front ≡ Some found → first_given f (front ++ forms) ≡ Some found
given_front f [] forms found is = absurd cc
given_front f (form ∷ front) forms found is = by (given_front f front forms found) (f form) refl
  where
    by : (first_given f front ≡ Some found → first_given f (front ++ forms) ≡ Some found) → (o : Option Form) → f form ≡ o → option_or (f form) (first_given f (front ++ forms)) ≡ Some found
    by more (Some here) e = ap (λ (o : Option Form). option_or o (first_given f (front ++ forms))) e ∙ sym (ap (λ (o : Option Form). option_or o (first_given f front)) e) ∙ is
    by more None e = ap (λ (o : Option Form). option_or o (first_given f (front ++ forms))) e ∙ more (sym (ap (λ (o : Option Form). option_or o (first_given f front)) e) ∙ is)

pub none_given : (f : Form → Option Form) (forms : List Form) → GiveNone f forms → first_given f forms ≡ None
none_given f [] none = refl
none_given f (form ∷ forms) none = ap (λ (o : Option Form). option_or o (first_given f forms)) none.0 ∙ none_given f forms none.1

pub none-append : (f : Form → Option Form) (front forms : List Form) → GiveNone f front → GiveNone f forms → GiveNone f (front ++ forms)
none-append f [] forms a b = b
none-append f (form ∷ front) forms a b = (a.0, none-append f front forms a.1 b)

pub none_map : {A : Type 0} (f : Form → Option Form) (to : A → Form) → ((a : A) → f (to a) ≡ None) → (xs : List A) → GiveNone f (map to xs)
none_map f to none [] = tt
none_map f to none (a ∷ xs) = (none a, none_map f to none xs)

-- none of them passes a test
abbrev pub PassNone : (Form → Bool) → List Form → Type 0
PassNone test [] = Unit {0}
PassNone test (form ∷ forms) = (test form ≡ false) × PassNone test forms

pub found_behind : (test : Form → Bool) (front : List Form) (form : Form) (forms : List Form) → PassNone test front → test form ≡ true → first_that test (front ++ form ∷ forms) ≡ Some form
found_behind test [] form forms none is = ap (λ (b : Bool). if b then Some form else first_that test forms) is
found_behind test (other ∷ front) form forms none is = ap (λ (b : Bool). if b then Some other else first_that test (front ++ form ∷ forms)) none.0 ∙ found_behind test front form forms none.1 is

pub pass-append : (test : Form → Bool) (front forms : List Form) → PassNone test front → PassNone test forms → PassNone test (front ++ forms)
pass-append test [] forms a b = b
pass-append test (form ∷ front) forms a b = (a.0, pass-append test front forms a.1 b)

pub pass_map : {A : Type 0} (test : Form → Bool) (to : A → Form) → ((a : A) → test (to a) ≡ false) → (xs : List A) → PassNone test (map to xs)
pass_map test to none [] = tt
pass_map test to none (a ∷ xs) = (none a, pass_map test to none xs)
