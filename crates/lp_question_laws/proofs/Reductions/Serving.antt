-- What a body of a reduction takes of what was made: its variant, and the functions that it adds.
use Rattle.std.proofs.Common.{◌≡◌, ℕ, zero, suc, ◌+◌, ◌≤◌, Bool, true, false, List, [], ◌∷◌, ◌++◌, length, Option, Some, None, refl, sym, ap, ◌∙◌, arith, append_assoc, length-append}
use Rattle.std.specs.Prelude.{slice_get, nat_lt}
use Rattle.std.specs.Option.{unwrap_or}
use Rattle.lp_core.specs.declared.expr.Function.{Function}
use Rattle.lp_core.specs.declared.value.Tag.TheVariants as tag
use Rattle.lp_core.specs.Store.{Program}
use Rattle.lp_view.specs.PartLists.{over}
use Rattle.lp_maker.specs.Slots.{Names}
use Rattle.lp_maker.specs.Making.{Making, number_in, numbered_by, with_variant, variant_tag}
use Rattle.lp_bodies.specs.Lines.{lines_of}
use Rattle.lp_bodies.specs.Reductions.{Work, work_of, reduce_line, last_end_function, part_function, with_last_end}
use Rattle.lp_question_laws.proofs.Gotos.GotoCode.{over-append}
use Rattle.lp_question_laws.proofs.Gotos.LinkMaps.{numbered_here, get_end}
use Rattle.lp_question_laws.specs.Reductions.Stacks.{Symbol}
use Rattle.lp_question_laws.proofs.Reductions.Popping.{pop_form, pop_forms}
use Rattle.lp_question_laws.proofs.Reductions.Bodies.{Line, last_forms}
use Rattle.lp_question_laws.proofs.Reductions.Wholes.{assert_forms, span_forms, body_forms, EndFor}
use Rattle.lp_question_laws.proofs.Reductions.Later.{Numbered}

-- the number that a variant has, or is given
abbrev pub variant_of : List ℕ → Making → ℕ
variant_of name m = unwrap_or (number_in name m.variants) (length m.variants)

pub variant_given : (name : List ℕ) (m : Making) → number_in name (with_variant name m).variants ≡ Some (variant_of name m)
variant_given name m = by (number_in name m.variants) refl
  where
    by : (o : Option ℕ) → number_in name m.variants ≡ o → number_in name (numbered_by name (length m.variants) m.variants (number_in name m.variants)) ≡ Some (unwrap_or (number_in name m.variants) (length m.variants))
    by None e =
        numbered_here name (length m.variants) m.variants e ∙ ap (λ o. Some (unwrap_or o (length m.variants))) (sym e)
    by (Some k) e = ap (λ o. number_in name (numbered_by name (length m.variants) m.variants o)) e ∙ e ∙ ap (λ o. Some (unwrap_or o (length m.variants))) (sym e)

-- ---- what a body makes

abbrev pub span_made : ℕ → Making → Making
span_made zero m = with_last_end m
span_made (suc n) m = m

abbrev pub last_made : Bool → List ℕ → Making → Making
last_made true name m = m
last_made false name m = with_variant name m

asserted_made : (w : Work) (b : Bool) (n : ℕ) → (over reduce_line w (assert_forms b n)).made ≡ w.made
asserted_made w true n = refl
asserted_made w false n = refl

popped_made : (w : Work) (k : ℕ) (xs : List Symbol) → (over reduce_line w (pop_forms k xs)).made ≡ w.made
popped_made w k [] = refl
popped_made w k (x ∷ xs) = ap (λ (v : Work). v.made) (over-append reduce_line w (pop_forms (k + 1) xs) (pop_form k x ∷ [])) ∙ popped_made w (k + 1) xs

span_makes : (w : Work) (n : ℕ) → (over reduce_line w (span_forms n)).made ≡ span_made n w.made
span_makes w zero = refl
span_makes w (suc n) = refl

last_makes : (w : Work) (r : Line) (fallible starts : Bool) → (over reduce_line w (last_forms (record r { fallible = fallible; starts = starts }))).made ≡ last_made starts r.name w.made
last_makes w r true true = refl
last_makes w r true false = refl
last_makes w r false true = refl
last_makes w r false false = refl

pub body_makes : (names : Names) (made : Making) (xs : List Symbol) (r : Line) → (over reduce_line (work_of (lines_of names []) made) (body_forms xs r)).made ≡ last_made r.starts r.name (span_made (length xs) made)
body_makes names made xs r =
    let w0 = work_of (lines_of names []) made in
    let n = length xs in
    let w1 = over reduce_line w0 (assert_forms (nat_lt 1 n) n) in
    let w2 = over reduce_line w1 (pop_forms 0 xs) in
    let w3 = over reduce_line w2 (span_forms n) in
    ap (λ (v : Work). v.made) (over-append reduce_line w0 (assert_forms (nat_lt 1 n) n) (pop_forms 0 xs ++ (span_forms n ++ last_forms r))
    ∙ over-append reduce_line w1 (pop_forms 0 xs) (span_forms n ++ last_forms r)
    ∙ over-append reduce_line w2 (span_forms n) (last_forms r))
    ∙ last_makes w3 r r.fallible r.starts
    ∙ ap (λ m. last_made r.starts r.name m) (span_makes w2 n ∙ ap (λ m. span_made n m) (popped_made w1 0 xs ∙ asserted_made w0 (nat_lt 1 n) n))

-- ---- where all is made

-- what a body adds to this stays in a program, and its variants have their numbers in the end
pub record Serves (p : Program) (last made after : Making) : Type 0 where
  pub names : made.names ≡ last.names
  pub variants : Numbered after last
  pub functions : (j : ℕ) (f : Function) → length made.functions ≤ j → slice_get after.functions j ≡ Some (Some f) → slice_get p.functions j ≡ Some f

span_variants : (n : ℕ) (made : Making) → (span_made n made).variants ≡ made.variants
span_variants zero made = refl
span_variants (suc n) made = refl

last_functions : (starts : Bool) (name : List ℕ) (m : Making) → (last_made starts name m).functions ≡ m.functions
last_functions true name m = refl
last_functions false name m = refl

module _ {p : Program} {last made : Making} (xs : List Symbol) (starts : Bool) (name : List ℕ) (h : Serves p last made (last_made starts name (span_made (length xs) made))) where
  -- the number of its variant
  pub variant_stays : starts ≡ false → number_in name last.variants ≡ Some (variant_of name made)
  variant_stays is =
      let n = length xs in
      let m = span_made n made in
      let given : number_in name (last_made starts name m).variants ≡ Some (variant_of name made) = ap (λ (b : Bool). number_in name (last_made b name m).variants) is ∙ variant_given name m ∙ ap (λ vs. Some (unwrap_or (number_in name vs) (length vs))) (span_variants n made) in
      h.variants name (variant_of name made) given

  pub tag_is : variant_tag name made ≡ tag.Variant (variant_of name made)
  tag_is = refl

module _ {p : Program} {last made : Making} (starts : Bool) (name : List ℕ) where
  -- without symbols, the functions for the end of the last symbol
  pub end_stays : (xs : List Symbol) → Serves p last made (last_made starts name (span_made (length xs) made)) → EndFor p made xs
  end_stays (x ∷ xs) h = tt
  end_stays [] h =
      let k = length made.functions in
      let two = made.functions ++ Some (part_function 2) ∷ [] in
      let whole = two ++ Some (last_end_function k) ∷ [] in
      let same : (last_made starts name (with_last_end made)).functions ≡ whole = last_functions starts name (with_last_end made) in
      let one : length two ≡ k + 1 = length-append made.functions (Some (part_function 2) ∷ []) in
      record {
        part = h.functions k (part_function 2) (omega arith) (ap (λ fs. slice_get fs k) same ∙ ap (λ fs. slice_get fs k) (append_assoc made.functions (Some (part_function 2) ∷ []) (Some (last_end_function k) ∷ [])) ∙ get_end made.functions (Some (last_end_function k) ∷ []) (Some (part_function 2)));
        last = h.functions (length two) (last_end_function k) (omega (arith, one)) (ap (λ fs. slice_get fs (length two)) same ∙ get_end two [] (Some (last_end_function k)));
      }
