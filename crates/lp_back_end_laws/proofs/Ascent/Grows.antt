-- What is made of recursive ascent adds functions and texts behind the others, and variants with numbers in a row.
use Rattle.std.proofs.Common.{◌≡◌, ℕ, List, [], ◌∷◌, ◌++◌, length, Option, refl, ap, sym, ◌∙◌}
use Rattle.lp_core.specs.declared.expr.Function.{Function}
use Rattle.lp_view.specs.PartLists.{Form, over}
use Rattle.lp_maker.specs.Making.{Making, first_numbered, with_function, with_text, with_variant}
use Rattle.lp_question_laws.proofs.Gotos.LinkGrows.{Extends, same, both, one_function, one_text, one_variant}

-- names that have numbers in a row, as far as they are new
abbrev pub numbered_all : List (List ℕ) → List (List ℕ × ℕ) → List (List ℕ × ℕ)
numbered_all [] es = es
numbered_all (v ∷ vs) es = numbered_all vs (first_numbered v (length es) es)

pub numbered-append : (vs ws : List (List ℕ)) (es : List (List ℕ × ℕ)) → numbered_all (vs ++ ws) es ≡ numbered_all ws (numbered_all vs es)
numbered-append [] ws es = refl
numbered-append (v ∷ vs) ws es = numbered-append vs ws (first_numbered v (length es) es)

-- variants with numbers in a row
abbrev pub More : Making → Making → Type 0
More m n = (vs : List (List ℕ)) × (n.variants ≡ numbered_all vs m.variants)

pub more_both : (m n o : Making) → More m n → More n o → More m o
more_both m n o f g = (f.0 ++ g.0, g.1 ∙ ap (numbered_all g.0) f.1 ∙ sym (numbered-append f.0 g.0 m.variants))

pub record Adds (m n : Making) : Type 0 where
  pub extends : Extends m n
  pub variants : More m n

pub none : (m : Making) → Adds m m
none m = record { extends = same m; variants = ([], refl) }

pub and_then : (m n o : Making) → Adds m n → Adds n o → Adds m o
and_then m n o f g = record { extends = both m n o f.extends g.extends; variants = more_both m n o f.variants g.variants }

pub a_function : (f : Option Function) (m : Making) → Adds m (with_function f m)
a_function f m = record { extends = one_function f m; variants = ([], refl) }

pub a_text : (t : List ℕ) (m : Making) → Adds m (with_text t m)
a_text t m = record { extends = one_text t m; variants = ([], refl) }

pub a_variant : (v : List ℕ) (m : Making) → Adds m (with_variant v m)
a_variant v m = record { extends = one_variant v m; variants = (v ∷ [], refl) }

pub over_adds : {S : Type 0} (made : S → Making) (step : S → Form → S) → ((s : S) (f : Form) → Adds (made s) (made (step s f))) → (s : S) (fs : List Form) → Adds (made s) (made (over step s fs))
over_adds made step h s [] = none (made s)
over_adds made step h s (f ∷ fs) = and_then (made s) (made (step s f)) (made (over step (step s f) fs)) (h s f) (over_adds made step h (step s f) fs)
