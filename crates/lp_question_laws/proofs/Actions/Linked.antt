-- The functions of actions are declared before those of the module and made after them: each stands under its name.
use Rattle.std.proofs.Common.{◌≡◌, ℕ, zero, suc, ◌+◌, ◌<◌, ◌≤◌, ◌^◌, Bool, true, false, List, [], ◌∷◌, ◌++◌, length, set, Option, Some, None, refl, ap, sym, subst, ◌∙◌, arith, append_assoc, append-nil, length-append, if◌then◌else◌}
use Rattle.std.specs.Prelude.{slice_get, codes, decimal, nat_lt}
use Rattle.std.proofs.lemmas.Bool.{lt-ltb}
use Rattle.std.proofs.lemmas.List.{append_cancel_left, length-set}
use Rattle.std.proofs.lemmas.Fmt.{decimal_injective}
use Rattle.lp_form.specs.declared.part.Part.TheVariants as part
use Rattle.lp_repr.specs.declared.repr.ActionFnDefn.{ActionFnDefn}
use Rattle.lp_repr.specs.declared.repr.Grammar.{Grammar}
use Rattle.lp_core.specs.declared.expr.Function.{Function}
use Rattle.lp_build.specs.declared.functions.FunctionName.TheVariants as name
use Rattle.lp_actions.specs.Parameters.{action_parameters, return_text}
use Rattle.lp_table.specs.Headers.{header_lines, grammar_header}
use Rattle.lp_view.specs.PartLists.{Form, is_a, hole_of, parts_of, over}
use Rattle.lp_maker.specs.Making.{Making, unmade, number_in, first_numbered, with_text}
use Rattle.lp_bodies.specs.Actions.{action_function, with_action, with_code_under, code_of}
use Rattle.lp_bodies.specs.Source.{is_located}
use Rattle.lp_run.specs.Promised.{Beginning, Promising, beginning, beginning_of, beginning_row, is_source, is_action, with_action_form, header_number, number_under}
use Rattle.lp_run.specs.Functions.{action_made, actions_made}
use Rattle.lp_question_laws.proofs.Gotos.GotoCode.{over-append}
use Rattle.lp_question_laws.proofs.Gotos.LinkMaps.{numbered_here, numbered_other, numbered_kept, get_more, get_end, get_set, get_set_other}
use Rattle.lp_question_laws.proofs.Gotos.LinkGrows.{Extends, same, one_text, either}
use Rattle.lp_question_laws.specs.Actions.Forms.{AreActions, AreNone, HasForms}
use Rattle.lp_question_laws.specs.Actions.Stands.{IsActionForm}

abbrev pub action_name : ℕ → List ℕ
action_name n = codes "super::action" ++ decimal n

-- forms with numbers from one on
abbrev pub promises_from : ℕ → List Form → List (ℕ × Form)
promises_from n [] = []
promises_from n (f ∷ fs) = (n, f) ∷ promises_from (n + 1) fs

-- the names of actions from a number on have the numbers from another on
abbrev pub AreNumbered : List (List ℕ × ℕ) → ℕ → ℕ → List Form → Type 0
AreNumbered names n k [] = Unit {0}
AreNumbered names n k (f ∷ fs) = (number_in (action_name n) names ≡ Some k) × AreNumbered names (n + 1) (k + 1) fs

-- names of later actions are new
abbrev IsFresh : ℕ → List (List ℕ × ℕ) → Type 0
IsFresh n names = (i : ℕ) → n ≤ i → i < 2 ^ 64 → number_in (action_name i) names ≡ None

names_differ : (i n : ℕ) → i < 2 ^ 64 → n < 2 ^ 64 → (i ≡ n → ⊥) → action_name i ≡ action_name n → ⊥
names_differ i n small few ne e = ne (decimal_injective i n small few (append_cancel_left (codes "super::action") (decimal i) (decimal n) e))

-- ---- declaring

header_hole : (g : Grammar) (n : ℕ) (texts : List (List ℕ)) (answer : List ℕ) → hole_of 0 (grammar_header g (name.Action n) [] texts answer) ≡ decimal n
unfolding header_lines
header_hole g n texts answer = refl

form_number : (g : Grammar) (n : ℕ) (a : ActionFnDefn) (form : Form) → IsActionForm g n a form → header_number form ≡ decimal n
form_number g n a form is = ap (λ l. number_under (slice_get l 0)) is.parts ∙ header_hole g n (action_parameters g a.kind) (return_text g a)

numbered_stay : (names : List (List ℕ × ℕ)) (q : List ℕ) (m n k : ℕ) (fs : List Form) → AreNumbered names n k fs → AreNumbered (first_numbered q m names) n k fs
numbered_stay names q m n k [] h = tt
numbered_stay names q m n k (f ∷ fs) h = (numbered_kept (action_name n) q m k names h.0, numbered_stay names q m (n + 1) (k + 1) fs h.1)

pub numbered_map : (names later : List (List ℕ × ℕ)) (n k : ℕ) (fs : List Form) → ((q : List ℕ) (j : ℕ) → number_in q names ≡ Some j → number_in q later ≡ Some j) → AreNumbered names n k fs → AreNumbered later n k fs
numbered_map names later n k [] keep h = tt
numbered_map names later n k (f ∷ fs) keep h = (keep (action_name n) k h.0, numbered_map names later (n + 1) (k + 1) fs keep h.1)

-- what the forms of actions declare
record Declared (s t : Promising) (n : ℕ) (fs : List Form) : Type 0 where
  promises : t.promises ≡ s.promises ++ promises_from (length s.made.functions) fs
  many : length t.made.functions ≡ length s.made.functions + length fs
  numbered : AreNumbered t.made.names n (length s.made.functions) fs
  kept : (q : List ℕ) (k : ℕ) → number_in q s.made.names ≡ Some k → number_in q t.made.names ≡ Some k
  prefix : t.made.prefix ≡ s.made.prefix

row_declares : (b : Beginning) (form : Form) → is_action form ≡ true → is_source form ≡ false → beginning_row b form ≡ with_action_form b form
row_declares b form taken no_source =
    ap (λ c. if c then record b { located = is_located form } else (if is_action form then with_action_form b form else b)) no_source
    ∙ ap (λ c. if c then with_action_form b form else b) taken

forms_declared : (g : Grammar) (n : ℕ) (defns : List ActionFnDefn) (fs : List Form) (b : Beginning) → n + length defns < 2 ^ 64 → AreActions g n defns fs → IsFresh n b.actions.made.names → Declared b.actions (over beginning_row b fs).actions n fs
forms_declared g n [] [] b small each fresh = record { promises = sym (append-nil b.actions.promises); many = omega arith; numbered = tt; kept = λ q k h. h; prefix = refl }
forms_declared g n [] (f ∷ fs) b small each fresh = absurd each
forms_declared g n (a ∷ defns) [] b small each fresh = absurd each
forms_declared g n (a ∷ defns) (f ∷ fs) b small each fresh =
    let m = b.actions.made in
    let k = length m.functions in
    let c = with_action_form b f in
    let q = codes "super::action" ++ header_number f in
    let name_is : q ≡ action_name n = ap (λ d. codes "super::action" ++ d) (form_number g n a f each.0.is) in
    let names_are : c.actions.made.names ≡ first_numbered (action_name n) k m.names = ap (λ x. first_numbered x k m.names) name_is in
    let new : number_in (action_name n) m.names ≡ None = fresh n (omega arith) (omega arith) in
    let here : number_in (action_name n) c.actions.made.names ≡ Some k = ap (number_in (action_name n)) names_are ∙ numbered_here (action_name n) k m.names new in
    let fresh' : IsFresh (n + 1) c.actions.made.names = λ i le less.
    ap (number_in (action_name i)) names_are ∙ numbered_other (action_name i) (action_name n) k m.names (names_differ i n less (omega arith) (λ e. omega (arith, le, e))) ∙ fresh i (omega (arith, le)) less in
    let more : length c.actions.made.functions ≡ k + 1 = length-append m.functions (None ∷ []) in
    let r = forms_declared g (n + 1) defns fs c (omega arith) each.1 fresh' in
    let whole : over beginning_row b (f ∷ fs) ≡ over beginning_row c fs = ap (λ x. over beginning_row x fs) (row_declares b f each.0.taken each.0.no_source) in
    subst (λ t. Declared b.actions t n (f ∷ fs)) (sym (ap (λ x. x.actions) whole)) (record {
      promises = r.promises ∙ ap (λ j. (b.actions.promises ++ (k, f) ∷ []) ++ promises_from j fs) more ∙ append_assoc b.actions.promises ((k, f) ∷ []) (promises_from (k + 1) fs);
      many = r.many ∙ (let e = more in omega arith);
      numbered = (r.kept (action_name n) k here, subst (λ j. AreNumbered (over beginning_row c fs).actions.made.names (n + 1) j fs) more r.numbered);
      kept = λ x j h. r.kept x j (ap (number_in x) names_are ∙ numbered_kept x (action_name n) k j m.names h);
      prefix = r.prefix;
    })

none_declared : (b : Beginning) (fs : List Form) → AreNone fs → (over beginning_row b fs).actions ≡ b.actions
none_declared b [] h = refl
none_declared b (f ∷ fs) h =
    none_declared (beginning_row b f) fs h.1
    ∙ either (λ (c : Beginning). c.actions ≡ b.actions) (is_source f) _ _ refl (ap (λ (c : Bool). (if c then with_action_form b f else b).actions) h.0)

-- what a program begins with
pub record Begins (prefix : List ℕ) (s : Promising) (fs : List Form) : Type 0 where
  pub promises : s.promises ≡ promises_from 0 fs
  pub many : length s.made.functions ≡ length fs
  pub numbered : AreNumbered s.made.names 0 0 fs
  pub same_prefix : s.made.prefix ≡ prefix

pub begins : (prefix : List ℕ) (g : Grammar) (program : Form) → (h : HasForms g program) → length g.action_fn_defns < 2 ^ 64 → Begins prefix (beginning (unmade prefix) program).actions h.forms
begins prefix g program h small =
    let b0 = beginning_of false [] (unmade prefix) in
    let b1 = over beginning_row b0 h.before in
    let b2 = over beginning_row b1 h.forms in
    let b3 = over beginning_row b2 h.after in
    let first : b1.actions ≡ b0.actions = none_declared b0 h.before h.none_before in
    let fresh : IsFresh 0 b1.actions.made.names = λ i le less. ap (λ (s : Promising). number_in (action_name i) s.made.names) first in
    let d = forms_declared g 0 g.action_fn_defns h.forms b1 (omega arith) h.each fresh in
    let e : Declared b0.actions b2.actions 0 h.forms = subst (λ (s : Promising). Declared s b2.actions 0 h.forms) first d in
    let last : b3.actions ≡ b2.actions = none_declared b2 h.after h.none_after in
    let whole : beginning (unmade prefix) program ≡ b3 = ap (over beginning_row b0) h.parts ∙ over-append beginning_row b0 h.before (h.forms ++ h.after) ∙ over-append beginning_row b1 h.forms h.after in
    subst (λ (s : Promising). Begins prefix s h.forms) (sym (ap (λ (x : Beginning). x.actions) whole ∙ last)) (record {
      promises = e.promises;
      many = e.many ∙ (omega arith);
      numbered = e.numbered;
      same_prefix = e.prefix;
    })

-- ---- making

code_extends : (o body : Option Form) (m : Making) → Extends m (with_code_under o body m)
code_extends None body m = same m
code_extends (Some header) None m = same m
code_extends (Some header) (Some body) m = either (Extends m) (is_a part.UserBody body) _ _ (one_text (code_of body) m) (same m)

action_extends : (m : Making) (form : Form) → Extends m (with_action form m)
action_extends m form = code_extends (slice_get (parts_of form) 0) (slice_get (parts_of form) 1) m

-- a function that is made stays, and so do texts
stays_there : (m : Making) (r : ℕ × Form) (j : ℕ) (x : Option Function) → (j ≡ r.0 → ⊥) → slice_get m.functions j ≡ Some x → slice_get (action_made m r).functions j ≡ Some x
stays_there m r j x ne h =
    let n = with_action r.1 m in
    let e = (action_extends m r.1).functions in
    let here : slice_get n.functions j ≡ Some x = subst (λ fs. slice_get fs j ≡ Some x) (sym e.1) (get_more m.functions e.0 j x h) in
    either (λ fs. slice_get fs j ≡ Some x) (nat_lt r.0 (length n.functions)) _ _ (get_set_other n.functions j r.0 (Some (action_function m r.1)) ne ∙ here) here

later_stay : (m : Making) (k : ℕ) (fs : List Form) (j : ℕ) (x : Option Function) → j < k → slice_get m.functions j ≡ Some x → slice_get (actions_made m (promises_from k fs)).functions j ≡ Some x
later_stay m k [] j x less h = h
later_stay m k (f ∷ fs) j x less h = later_stay (action_made m (k, f)) (k + 1) fs j x (omega arith) (stays_there m (k, f) j x (λ e. omega (arith, e, less)) h)

texts_stay : (m : Making) (rs : List (ℕ × Form)) (j : ℕ) (t : List ℕ) → slice_get m.texts j ≡ Some t → slice_get (actions_made m rs).texts j ≡ Some t
texts_stay m [] j t h = h
texts_stay m (r ∷ rs) j t h =
    let e = (action_extends m r.1).texts in
    texts_stay (action_made m r) rs j t (subst (λ ts. slice_get ts j ≡ Some t) (sym e.1) (get_more m.texts e.0 j t h))

pub names_stay : (m : Making) (rs : List (ℕ × Form)) → (actions_made m rs).names ≡ m.names
names_stay m [] = refl
names_stay m (r ∷ rs) = names_stay (action_made m r) rs ∙ (action_extends m r.1).names

functions_many : (m : Making) (r : ℕ × Form) → length m.functions ≤ length (action_made m r).functions
functions_many m r =
    let n = with_action r.1 m in
    let e = (action_extends m r.1).functions in
    let l : length n.functions ≡ length m.functions + length e.0 = ap length e.1 ∙ length-append m.functions e.0 in
    either (λ (fs : List (Option Function)). length m.functions ≤ length fs) (nat_lt r.0 (length n.functions)) _ _ (let s = length-set n.functions r.0 (Some (action_function m r.1)) in omega arith) (omega arith)

made_here : (m : Making) (r : ℕ × Form) → r.0 < length m.functions → slice_get (action_made m r).functions r.0 ≡ Some (Some (action_function m r.1))
made_here m r less =
    let n = with_action r.1 m in
    let e = (action_extends m r.1).functions in
    let l : length n.functions ≡ length m.functions + length e.0 = ap length e.1 ∙ length-append m.functions e.0 in
    let lt : r.0 < length n.functions = omega arith in
    ap (λ b. slice_get (if b then set n.functions r.0 (Some (action_function m r.1)) else n.functions) r.0) (lt-ltb r.0 (length n.functions) lt)
    ∙ get_set n.functions r.0 (Some (action_function m r.1)) lt

-- the code of a form is the next text
code_here : (m : Making) (r : ℕ × Form) (head body : Form) → parts_of r.1 ≡ head ∷ body ∷ [] → is_a part.UserBody body ≡ true → slice_get (action_made m r).texts (length m.texts) ≡ Some (code_of body)
code_here m r head body parts user =
    ap (λ (l : List Form). slice_get (with_code_under (slice_get l 0) (slice_get l 1) m).texts (length m.texts)) parts
    ∙ ap (λ (b : Bool). slice_get (if b then with_text (code_of body) m else m).texts (length m.texts)) user
    ∙ get_end m.texts [] (code_of body)

-- the function of a promised form
pub record Made (m : Making) (k : ℕ) (fs : List Form) (i : ℕ) (form : Form) : Type 0 where
  pub maker : Making
  pub knows : maker.names ≡ m.names
  pub prefix : maker.prefix ≡ m.prefix
  pub there : slice_get (actions_made m (promises_from k fs)).functions (k + i) ≡ Some (Some (action_function maker form))
  pub text : (head body : Form) → parts_of form ≡ head ∷ body ∷ [] → is_a part.UserBody body ≡ true → slice_get (actions_made m (promises_from k fs)).texts (length maker.texts) ≡ Some (code_of body)

pub made : (m : Making) (k : ℕ) (fs : List Form) (i : ℕ) (form : Form) → slice_get fs i ≡ Some form → k + length fs ≤ length m.functions → Made m k fs i form
made m k [] i form is few = absurd cc
made m k (f ∷ fs) zero form is few =
    let same : f ≡ form = cc in
    let here : slice_get (action_made m (k, f)).functions k ≡ Some (Some (action_function m form)) = made_here m (k, f) (omega arith) ∙ ap (λ x. Some (Some (action_function m x))) same in
    record {
      maker = m;
      knows = refl;
      prefix = refl;
      there = ap (slice_get (actions_made (action_made m (k, f)) (promises_from (k + 1) fs)).functions) (let z : k + 0 ≡ k = omega arith in z) ∙ later_stay (action_made m (k, f)) (k + 1) fs k (Some (action_function m form)) (omega arith) here;
      text = λ head body parts user. texts_stay (action_made m (k, f)) (promises_from (k + 1) fs) (length m.texts) (code_of body) (code_here m (k, f) head body (ap parts_of same ∙ parts) user);
    }
made m k (f ∷ fs) (suc i) form is few =
    let next = action_made m (k, f) in
    let e = action_extends m f in
    let r = made next (k + 1) fs i form is (let l = functions_many m (k, f) in omega arith) in
    record {
      maker = r.maker;
      knows = r.knows ∙ e.names;
      prefix = r.prefix ∙ e.prefix;
      there = ap (slice_get (actions_made next (promises_from (k + 1) fs)).functions) (let z : k + suc i ≡ k + 1 + i = omega arith in z) ∙ r.there;
      text = r.text;
    }
