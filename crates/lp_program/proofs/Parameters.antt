-- The last parameter of parts that are gone through one after another, and whose parameters end with it.
use Rattle.std.proofs.Common.{◌≡◌, ℕ, ◌+◌, ◌<◌, ◌≤◌, ◌&&◌, not, Bool, true, false, cond, List, [], ◌∷◌, ◌++◌, length, map, get_or, drop, codes, refl, sym, ap, ◌∙◌, arith, eqb}
use Rattle.std.specs.List.{starts_with}
use Rattle.std.proofs.lemmas.Bool.{false_from_ne_true}
use Rattle.std.proofs.lemmas.List.{at_drop_all, at_drop_more, drop_at}
use Rattle.lp_form.specs.contracts.part.PartPartialEq.TheImpl as equality
use Rattle.lp_form.specs.declared.part.Part.TheVariants as part
use Rattle.lp_spelling.proofs.Reading.{starts_again, starts_ok}
use Rattle.lp_tree.specs.declared.tree.Entry.{Entry}
use Rattle.lp_program.specs.Parameters.{first_or, parameter_after, last_parameter, is_argument, parameters_of}
use Rattle.lp_program.specs.Trees.{Content, content}
use Rattle.lp_program.specs.declared.read.reader.Parameters.TheVariants as whose

-- one part more, and all of them
pub parameter_more : (last next all : List ℕ) (es : List Entry) (i : ℕ) (e : Entry) → last_parameter last (map content (drop i es)) ≡ all → i < length es → e ≡ get_or es i e → next ≡ parameter_after last (content e) →
    last_parameter next (map content (drop (i + 1) es)) ≡ all
parameter_more last next all es i e h lt at n =
    ap (λ (x : List ℕ). last_parameter x (map content (drop (i + 1) es))) (n ∙ ap (λ (x : Entry). parameter_after last (content x)) at)
    ∙ sym (at_drop_more (λ (xs : List Entry). last_parameter last (map content xs)) es i e lt) ∙ h

pub parameter_last : (last all : List ℕ) (es : List Entry) (i : ℕ) → last_parameter last (map content (drop i es)) ≡ all → length es ≤ i → last ≡ all
parameter_last last all es i h le = sym (at_drop_all (λ (xs : List Entry). last_parameter last (map content xs)) es i le) ∙ h

-- the first hole, or none
pub first_there : (last : List ℕ) (holes : List (List ℕ)) → 0 < length holes → get_or holes 0 [] ≡ first_or last holes
first_there last [] h = absurd (omega arith)
first_there last (x ∷ holes) h = refl

pub first_gone : (last : List ℕ) (holes : List (List ℕ)) → length holes ≡ 0 → last ≡ first_or last holes
first_gone last [] h = refl
first_gone last (x ∷ holes) h = absurd (omega (arith, h))

-- a row of a parameter, or another part
pub row_told : (last : List ℕ) (c : Content) → (equality.ghosts).eq c.part part.ParameterRow ≡ true → first_or last c.holes ≡ parameter_after last c
row_told last c row = sym (ap (λ (b : Bool). cond b (first_or last c.holes) last) row)

pub row_other : (last : List ℕ) (c : Content) → (equality.ghosts).eq c.part part.ParameterRow ≡ false → last ≡ parameter_after last c
row_other last c other = sym (ap (λ (b : Bool). cond b (first_or last c.holes) last) other)

-- whose parameters end with one
whose_by : (prefix last : List ℕ) (a b c : Bool) → starts_with eqb last (codes "(_, ") ≡ a → starts_with eqb last prefix ≡ b → starts_with eqb (drop (length prefix) last) (codes "look") ≡ c →
    parameters_of prefix last ≡ cond a whose.User (cond (b && not c) whose.Inlined whose.None)
whose_by prefix last a b c e f g =
    ap (λ (x : Bool). cond x whose.User (cond (is_argument prefix last) whose.Inlined whose.None)) e
    ∙ ap (λ (x : Bool). cond a whose.User (cond (x && not (starts_with eqb (drop (length prefix) last) (codes "look"))) whose.Inlined whose.None)) f
    ∙ ap (λ (x : Bool). cond a whose.User (cond (b && not x) whose.Inlined whose.None)) g

pub user_parameters : (prefix last all : List ℕ) → last ≡ all → starts_with eqb last (codes "(_, ") ≡ true → whose.User ≡ parameters_of prefix all
user_parameters prefix last all s e = sym (whose_by prefix last true _ _ e refl refl) ∙ ap (parameters_of prefix) s

pub own_parameters : (prefix last rest all : List ℕ) (look : Bool) → last ≡ all → starts_with eqb last (codes "(_, ") ≡ false → last ≡ prefix ++ rest → starts_with eqb rest (codes "look") ≡ look →
    cond (not look) whose.Inlined whose.None ≡ parameters_of prefix all
own_parameters prefix last rest all look s e f g =
    let front : starts_with eqb last prefix ≡ true = ap (λ (t : List ℕ). starts_with eqb t prefix) f ∙ starts_again prefix rest in
    let behind : drop (length prefix) last ≡ rest = ap (drop (length prefix)) f ∙ drop_at prefix rest (length prefix) refl in
    sym (whose_by prefix last false true look e front (ap (λ (t : List ℕ). starts_with eqb t (codes "look")) behind ∙ g)) ∙ ap (parameters_of prefix) s

pub no_parameters : (prefix last all : List ℕ) → last ≡ all → starts_with eqb last (codes "(_, ") ≡ false → ((rest : List ℕ) → last ≡ prefix ++ rest → ⊥) → whose.None ≡ parameters_of prefix all
no_parameters prefix last all s e none =
    let front : starts_with eqb last prefix ≡ false = false_from_ne_true (starts_with eqb last prefix) (λ h. none (drop (length prefix) last) (starts_ok prefix last h)) in
    sym (whose_by prefix last false false _ e front refl) ∙ ap (parameters_of prefix) s
