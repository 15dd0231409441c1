-- What steps add to a part, one after another.
use Rattle.std.proofs.Common.{◌≡◌, ℕ, ◌+◌, ◌<◌, ◌≤◌, zero, suc, true, false, ⊎_elim, List, [], ◌∷◌, ◌++◌, length, get_or, refl, sym, ap, ◌∙◌, arith, append_assoc, append-nil, length-append, subst}
use Rattle.std.proofs.lemmas.Bool.{cases_lt, false≢true}
use Rattle.std.proofs.lemmas.List.{get_or_append_left, nil_from_length}
use Rattle.lp_form.specs.Templates.{Piece, holes_of}
use Rattle.lp_form.specs.declared.template.Kind.{Kind}
use Rattle.lp_program.specs.declared.read.growing.Growing.{Growing}
use Rattle.lp_program.specs.Trees.{Content}
use Rattle.lp_spelling.specs.Lines.{line_of, TakesParts}
use Rattle.lp_spelling.specs.Fillings.{Fills}
use Rattle.lp_spelling.specs.Counting.{settled, front_line, behind_line}
use Rattle.lp_spelling.specs.LineReading.{kind_of, AllFill}
use Rattle.lp_program.specs.Reads.{TakesLine, TakesLines}
use Rattle.lp_program.specs.Growing.{Grows, MayBecome}
use Rattle.lp_spelling.proofs.Spelled.{line_stays}

pub grows_none : (prefix : List ℕ) (g : Growing) → Grows prefix g g
grows_none prefix g = record {
  part_is = refl;
  more = [];
  holes_are = sym (append-nil g.holes.items);
  fills = λ k l m n. absurd (omega arith);
  tabled = λ t. t;
  numbers = λ t. refl;
}

pub grows_then : (prefix : List ℕ) (a b c : Growing) → Grows prefix a b → Grows prefix b c → Grows prefix a c
grows_then prefix a b c f g =
    let size = ap length g.holes_are ∙ length-append b.holes.items g.more in
    record {
      part_is = g.part_is ∙ f.part_is;
      more = f.more ++ g.more;
      holes_are = g.holes_are ∙ ap (λ x. x ++ g.more) f.holes_are ∙ append_assoc a.holes.items f.more g.more;
      fills = λ k l m n.
          ⊎_elim
          (λ (small : k < length b.holes.items).
          let at : get_or c.holes.items k [] ≡ get_or b.holes.items k [] = ap (λ y. get_or y k []) g.holes_are ∙ get_or_append_left b.holes.items g.more [] k small in
          subst (λ (y : List ℕ). Fills prefix (kind_of (holes_of a.part) k) y) (sym at) (f.fills k l small n))
          (λ (large : length b.holes.items ≤ k).
          subst (λ p. Fills prefix (kind_of (holes_of p) k) (get_or c.holes.items k [])) f.part_is
          (g.fills k large m (subst (λ p. k < length (holes_of p)) (sym f.part_is) n)))
          (cases_lt k (length b.holes.items));
      tabled = λ t. g.tabled (f.tabled t);
      numbers = λ t. g.numbers (f.tabled t) ∙ f.numbers t;
    }

-- what a part may become after a step, it may become before it
pub becomes_before : (prefix : List ℕ) (a b : Growing) (c : Content) → Grows prefix a b → MayBecome b c → MayBecome a c
becomes_before prefix a b c f m = record {
  part_is = m.part_is ∙ f.part_is;
  more = f.more ++ m.more;
  holes_are = m.holes_are ∙ ap (λ x. x ++ m.more) f.holes_are ∙ append_assoc a.holes.items f.more m.more;
  numbers = λ t. m.numbers (f.tabled t) ∙ f.numbers t;
}

-- a line was read
pub grows_line : (prefix : List ℕ) (kinds : List Kind) (a b : Growing) (pieces : List Piece) (line : List ℕ) → b.part ≡ a.part → (a.tabled ≡ true → b.tabled ≡ true) →
    (a.tabled ≡ true → b.numbers.items ≡ a.numbers.items) → kinds ≡ holes_of a.part →
    AllFill prefix kinds (length a.holes.items) b.holes.items → TakesParts prefix pieces a.holes.items b.holes.items line [] → Grows prefix a b
grows_line prefix kinds a b pieces line p t n k f s = record {
  part_is = p;
  more = s.more;
  holes_are = s.known;
  fills = λ i l m o. subst (λ ks. Fills prefix (kind_of ks i) (get_or b.holes.items i [])) k (f i l m);
  tabled = t;
  numbers = n;
}

pub line_taken : (prefix : List ℕ) (old : List (List ℕ)) (g : Growing) (c : Content) (pieces : List Piece) (line text rest : List ℕ) → MayBecome g c →
    TakesParts prefix pieces old g.holes.items line [] → line ≡ front_line (settled text) → 0 < length (settled text) → rest ≡ behind_line (settled text) →
    TakesLine (line_of prefix c.holes pieces) text rest
line_taken prefix old g c pieces line text rest m s e l r = record {
  some = l;
  line_is = sym e ∙ s.spelled ∙ append-nil (line_of prefix g.holes.items pieces) ∙ sym (line_stays prefix g.holes.items m.more pieces s.told)
      ∙ ap (λ h. line_of prefix h pieces) (sym m.holes_are);
  rest_is = r;
}

-- one line more of a spelling
pub lines_more : (n : ℕ) (line text mid rest : List ℕ) → TakesLines n line text mid → TakesLine line mid rest → TakesLines (n + 1) line text rest
lines_more n line text mid rest h t =
    let next : suc n ≡ n + 1 = omega arith in
    subst (λ k. TakesLines k line text rest) next (behind_lines n line text mid rest h t)
  where
    behind_lines : (n : ℕ) (line text mid rest : List ℕ) → TakesLines n line text mid → TakesLine line mid rest → TakesLines (suc n) line text rest
    behind_lines zero line text mid rest h t = (rest, subst (λ x. TakesLine line x rest) h t, refl)
    behind_lines (suc n) line text mid rest h t = (h.0, h.1, behind_lines n line h.0 mid rest h.2 t)

-- a text of its own was read into the first hole
pub grows_text : (prefix : List ℕ) (a b : Growing) (text : List ℕ) → b.part ≡ a.part → (a.tabled ≡ true → b.tabled ≡ true) →
    (a.tabled ≡ true → b.numbers.items ≡ a.numbers.items) → length (holes_of a.part) ≡ 0 → b.holes.items ≡ a.holes.items ++ text ∷ [] → Grows prefix a b
grows_text prefix a b text p t n k h = record {
  part_is = p;
  more = text ∷ [];
  holes_are = h;
  fills = λ i l m o. absurd (omega (arith, k, o));
  tabled = t;
  numbers = n;
}

pub first_hole : (old : List (List ℕ)) (g : Growing) (c : Content) (text : List ℕ) → length old ≡ 0 → g.holes.items ≡ old ++ text ∷ [] → MayBecome g c → get_or c.holes 0 [] ≡ text
first_hole old g c text e h m =
    let none : old ≡ [] = nil_from_length old e in
    ap (λ x. get_or x 0 []) (m.holes_are ∙ ap (λ x. x ++ m.more) (h ∙ ap (λ x. x ++ text ∷ []) none))

-- a table was read
pub grows_table : (prefix : List ℕ) (a b : Growing) → b.part ≡ a.part → b.holes ≡ a.holes → b.tabled ≡ true → a.tabled ≡ false → Grows prefix a b
grows_table prefix a b p h t f = record {
  part_is = p;
  more = [];
  holes_are = ap (λ v. v.items) h ∙ sym (append-nil a.holes.items);
  fills = λ k l m n. absurd (omega (arith, ap (λ v. length v.items) h, l, m));
  tabled = λ x. t;
  numbers = λ x. absurd (false≢true (sym f ∙ x));
}
