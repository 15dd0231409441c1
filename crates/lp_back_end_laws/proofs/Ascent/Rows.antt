-- Rows of a module: each declares a function, or leaves names and promises.
use Rattle.std.proofs.Common.{◌≡◌, ℕ, ◌≤◌, ◌+◌, List, [], ◌∷◌, ◌++◌, length, Option, Some, None, refl, ap, sym, subst, ◌∙◌, arith, append_assoc, append-nil, length-append}
use Rattle.std.specs.Prelude.{slice_get}
use Rattle.lp_core.specs.declared.expr.Function.{Function}
use Rattle.lp_view.specs.PartLists.{Form, over}
use Rattle.lp_maker.specs.Making.{declared, number_in}
use Rattle.lp_run.specs.Promised.{Promising, promising_of, module_row}
use Rattle.lp_question_laws.proofs.Gotos.LinkMaps.{get_more, numbered_kept, numbered_other}
use Rattle.lp_back_end_laws.proofs.Ascent.Stays.{Grows, AllGrow, Waits, waits_more, grow_append, texts_both}

-- ---- one row
-- a row that makes tables, texts or nothing
pub record Leaves (s t : Promising) : Type 0 where
  pub promises : t.promises ≡ s.promises
  pub functions : t.made.functions ≡ s.made.functions
  pub names : t.made.names ≡ s.made.names
  pub prefix : t.made.prefix ≡ s.made.prefix
  pub variants : t.made.variants ≡ s.made.variants
  pub item_closure : t.made.item_closure ≡ s.made.item_closure
  pub texts : (ts : List (List ℕ)) × (t.made.texts ≡ s.made.texts ++ ts)

-- a form is promised under a name
abbrev pub declares : List ℕ → Promising → Form → Promising
declares q s f = promising_of (s.promises ++ (length s.made.functions, f) ∷ []) (declared q s.made)

-- the name that a row declares, if it does
abbrev pub RowIs : Form → Option (List ℕ) → Type 0
RowIs f None = (s : Promising) → Leaves s (module_row s f)
RowIs f (Some q) = ((s : Promising) → module_row s f ≡ declares q s f) × Grows f

abbrev pub AreRows : List Form → List (Option (List ℕ)) → Type 0
AreRows [] [] = Unit {0}
AreRows [] (n ∷ ns) = ⊥
AreRows (f ∷ fs) [] = ⊥
AreRows (f ∷ fs) (n ∷ ns) = RowIs f n × AreRows fs ns

pub rows_append : (fs gs : List Form) (ns ms : List (Option (List ℕ))) → AreRows fs ns → AreRows gs ms → AreRows (fs ++ gs) (ns ++ ms)
rows_append [] gs [] ms a b = b
rows_append [] gs (n ∷ ns) ms a b = absurd a
rows_append (f ∷ fs) gs [] ms a b = absurd a
rows_append (f ∷ fs) gs (n ∷ ns) ms a b = (a.0, rows_append fs gs ns ms a.1 b)

-- a name that none of them declares
abbrev pub IsNew : List ℕ → List (Option (List ℕ)) → Type 0
IsNew q [] = Unit {0}
IsNew q (None ∷ ns) = IsNew q ns
IsNew q (Some n ∷ ns) = (q ≡ n → ⊥) × IsNew q ns

pub new_append : (q : List ℕ) (ns ms : List (Option (List ℕ))) → IsNew q ns → IsNew q ms → IsNew q (ns ++ ms)
new_append q [] ms a b = b
new_append q (None ∷ ns) ms a b = new_append q ns ms a b
new_append q (Some n ∷ ns) ms a b = (a.0, new_append q ns ms a.1 b)

-- ---- what rows add
-- promises behind the others; functions, names and texts stay
pub record Opens (s t : Promising) : Type 0 where
  pub promises : (rs : List (ℕ × Form)) × (t.promises ≡ s.promises ++ rs)
  pub functions : (j : ℕ) (x : Option Function) → slice_get s.made.functions j ≡ Some x → slice_get t.made.functions j ≡ Some x
  pub many : length s.made.functions ≤ length t.made.functions
  pub names : (q : List ℕ) (k : ℕ) → number_in q s.made.names ≡ Some k → number_in q t.made.names ≡ Some k
  pub prefix : t.made.prefix ≡ s.made.prefix
  pub variants : t.made.variants ≡ s.made.variants
  pub item_closure : t.made.item_closure ≡ s.made.item_closure
  pub texts : (ts : List (List ℕ)) × (t.made.texts ≡ s.made.texts ++ ts)

opens_none : (s : Promising) → Opens s s
opens_none s = record { promises = ([], sym (append-nil s.promises)); functions = λ j x h. h; many = omega arith; names = λ q k h. h; prefix = refl; variants = refl; item_closure = refl; texts = ([], sym (append-nil s.made.texts)) }

pub opens_both : (s t u : Promising) → Opens s t → Opens t u → Opens s u
opens_both s t u f g = record {
  promises = (f.promises.0 ++ g.promises.0, g.promises.1 ∙ ap (λ (x : List (ℕ × Form)). x ++ g.promises.0) f.promises.1 ∙ append_assoc s.promises f.promises.0 g.promises.0);
  functions = λ j x h. g.functions j x (f.functions j x h);
  many = omega (arith, f.many, g.many);
  names = λ q k h. g.names q k (f.names q k h);
  prefix = g.prefix ∙ f.prefix;
  variants = g.variants ∙ f.variants;
  item_closure = g.item_closure ∙ f.item_closure;
  texts = texts_both s.made.texts t.made.texts u.made.texts f.texts g.texts;
}

opens_left : (s t : Promising) → Leaves s t → Opens s t
opens_left s t l = record {
  promises = ([], l.promises ∙ sym (append-nil s.promises));
  functions = λ j x h. ap (λ (fs : List (Option Function)). slice_get fs j) l.functions ∙ h;
  many = (let e : length t.made.functions ≡ length s.made.functions = ap length l.functions in omega arith);
  names = λ q k h. ap (number_in q) l.names ∙ h;
  prefix = l.prefix;
  variants = l.variants;
  item_closure = l.item_closure;
  texts = l.texts;
}

pub opens_declared : (q : List ℕ) (s : Promising) (f : Form) → Opens s (declares q s f)
opens_declared q s f = record {
  promises = ((length s.made.functions, f) ∷ [], refl);
  functions = λ j x h. get_more s.made.functions (None ∷ []) j x h;
  many = (let e : length (s.made.functions ++ None ∷ []) ≡ length s.made.functions + 1 = length-append s.made.functions (None ∷ []) in omega arith);
  names = λ n k h. numbered_kept n q (length s.made.functions) k s.made.names h;
  prefix = refl;
  variants = refl;
  item_closure = refl;
  texts = ([], sym (append-nil s.made.texts));
}

pub row_opens : (s : Promising) (f : Form) (n : Option (List ℕ)) → RowIs f n → Opens s (module_row s f)
row_opens s f None h = opens_left s (module_row s f) (h s)
row_opens s f (Some q) h = subst (Opens s) (sym (h.0 s)) (opens_declared q s f)

pub rows_open : (s : Promising) (fs : List Form) (ns : List (Option (List ℕ))) → AreRows fs ns → Opens s (over module_row s fs)
rows_open s [] [] a = opens_none s
rows_open s [] (n ∷ ns) a = absurd a
rows_open s (f ∷ fs) [] a = absurd a
rows_open s (f ∷ fs) (n ∷ ns) a = opens_both s (module_row s f) (over module_row (module_row s f) fs) (row_opens s f n a.0) (rows_open (module_row s f) fs ns a.1)

-- ---- all that is promised waits
pub record Open (low : ℕ) (s : Promising) : Type 0 where
  pub room : low ≤ length s.made.functions
  pub waits : Waits low s.made.functions s.promises
  pub grow : AllGrow s.promises

pub open_declared : (low : ℕ) (q : List ℕ) (s : Promising) (f : Form) → Grows f → Open low s → Open low (declares q s f)
open_declared low q s f grows o = record {
  room = omega (arith, o.room, (opens_declared q s f).many);
  waits = waits_more low s.made.functions s.promises f o.room o.waits;
  grow = grow_append s.promises ((length s.made.functions, f) ∷ []) o.grow (grows, tt);
}

open_left : (low : ℕ) (s t : Promising) → Leaves s t → Open low s → Open low t
open_left low s t l o = record {
  room = omega (arith, o.room, (opens_left s t l).many);
  waits = subst (λ (fs : List (Option Function)). Waits low fs t.promises) (sym l.functions) (subst (Waits low s.made.functions) (sym l.promises) o.waits);
  grow = subst AllGrow (sym l.promises) o.grow;
}

row_open : (low : ℕ) (s : Promising) (f : Form) (n : Option (List ℕ)) → RowIs f n → Open low s → Open low (module_row s f)
row_open low s f None h o = open_left low s (module_row s f) (h s) o
row_open low s f (Some q) h o = subst (Open low) (sym (h.0 s)) (open_declared low q s f h.1 o)

pub all_open : (low : ℕ) (s : Promising) (fs : List Form) (ns : List (Option (List ℕ))) → AreRows fs ns → Open low s → Open low (over module_row s fs)
all_open low s [] [] a o = o
all_open low s [] (n ∷ ns) a o = absurd a
all_open low s (f ∷ fs) [] a o = absurd a
all_open low s (f ∷ fs) (n ∷ ns) a o = all_open low (module_row s f) fs ns a.1 (row_open low s f n a.0 o)

-- ---- a new name has no number yet
new_row : (q : List ℕ) (s : Promising) (f : Form) (n : Option (List ℕ)) → RowIs f n → IsNew q (n ∷ []) → number_in q (module_row s f).made.names ≡ number_in q s.made.names
new_row q s f None h new = ap (number_in q) (h s).names
new_row q s f (Some k) h new = ap (λ (t : Promising). number_in q t.made.names) (h.0 s) ∙ numbered_other q k (length s.made.functions) s.made.names new.0

new_first : (q : List ℕ) (n : Option (List ℕ)) (ns : List (Option (List ℕ))) → IsNew q (n ∷ ns) → IsNew q (n ∷ []) × IsNew q ns
new_first q None ns h = (tt, h)
new_first q (Some k) ns h = ((h.0, tt), h.1)

pub new_rows : (q : List ℕ) (s : Promising) (fs : List Form) (ns : List (Option (List ℕ))) → AreRows fs ns → IsNew q ns → number_in q (over module_row s fs).made.names ≡ number_in q s.made.names
new_rows q s [] [] a new = refl
new_rows q s [] (n ∷ ns) a new = absurd a
new_rows q s (f ∷ fs) [] a new = absurd a
new_rows q s (f ∷ fs) (n ∷ ns) a new =
    let both = new_first q n ns new in
    new_rows q (module_row s f) fs ns a.1 both.1 ∙ new_row q s f n a.0 both.0
