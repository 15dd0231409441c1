-- A call that writes lines, part by part: what is written so far, and what is left.
use Rattle.std.proofs.Common.{◌≡◌, ℕ, ◌+◌, ◌-◌, ◌<◌, suc, List, [], ◌∷◌, ◌++◌, length, map, get_or, drop, replicate, refl, sym, ap, ◌∙◌, arith, append_assoc, append-nil, subst}
use Rattle.std.proofs.lemmas.List.{at_drop_more}
use Rattle.lp_write.specs.Lines.{Line}
use Rattle.lp_write.specs.declared.rust.Options.{Options}
use Rattle.lp_write.specs.declared.rust.WriteError.{WriteError}
use Rattle.lp_write.specs.declared.rust.WriteError.TheVariants.{Fault, Memory}
use Rattle.lp_write.specs.Writes.{Writing, AppendsAll, AppendsPart, Writes, Ending, error_ending}
use Rattle.lp_write.specs.Writes.Ending.{wanting}
use Rattle.lp_write.proofs.Writing.{all-none, all-then, part-more, faults-more, writes-then, none-part}

-- of all lines some are written, and these are left
pub record Left (a b : Writing) (all rest : List Line) : Type 0 where
  pub done : List Line
  pub appended : AppendsAll a b done
  pub all_is : all ≡ done ++ rest

-- nothing is written yet
pub left-all : (a : Writing) (all : List Line) → Left a a all all
left-all a all = record { done = []; appended = all-none a; all_is = refl }

-- nothing is left
pub left-none : (a b : Writing) (all : List Line) → Left a b all [] → AppendsAll a b all
left-none a b all l = subst (λ xs. AppendsAll a b xs) (sym (l.all_is ∙ append-nil l.done)) l.appended

-- the next lines were written, which go by the options
pub left-more : (f : Options → List Line) (a b c : Writing) (all old rest : List Line) → Left a b all old → old ≡ f a.options ++ rest →
    AppendsAll b c (f b.options) → Left a c all rest
left-more f a b c all old rest l e p = record {
  done = l.done ++ f a.options;
  appended = all-then a b c l.done (f a.options) l.appended (subst (λ o. AppendsAll b c (f o)) l.appended.options p);
  all_is = l.all_is ∙ ap (λ xs. l.done ++ xs) e ∙ sym (append_assoc l.done (f a.options) rest);
}

-- a call that stopped in its first lines
pub stopped-more : (e : WriteError) (a b : Writing) (xs ys : List Line) → Writes (error_ending e) a b xs → Writes (error_ending e) a b (xs ++ ys)
stopped-more Fault a b xs ys p = faults-more a b xs ys p
stopped-more Memory a b xs ys p = part-more a b xs ys p

-- the next lines were not written whole
pub left-stopped : (f : Options → List Line) (e : WriteError) (a b c : Writing) (all old rest : List Line) → Left a b all old → old ≡ f a.options ++ rest →
    Writes (error_ending e) b c (f b.options) → Writes (error_ending e) a c all
left-stopped f e a b c all old rest l q p =
    let next : Writes (error_ending e) b c (f a.options) = subst (λ o. Writes (error_ending e) b c (f o)) l.appended.options p in
    let both : Writes (error_ending e) a c (l.done ++ f a.options) = writes-then (error_ending e) a b c l.done (f a.options) l.appended next in
    let is : all ≡ (l.done ++ f a.options) ++ rest = l.all_is ∙ ap (λ xs. l.done ++ xs) q ∙ sym (append_assoc l.done (f a.options) rest) in
    subst (λ xs. Writes (error_ending e) a c xs) (sym is) (stopped-more e a c (l.done ++ f a.options) rest both)

-- the call writes the rest, however it ends
pub left-last : (f : Options → List Line) (e : Ending) (a b c : Writing) (all : List Line) → Left a b all (f a.options) →
    Writes e b c (f b.options) → Writes e a c all
left-last f e a b c all l p =
    let next : Writes e b c (f a.options) = subst (λ o. Writes e b c (f o)) l.appended.options p in
    subst (λ xs. Writes e a c xs) (sym l.all_is) (writes-then e a b c l.done (f a.options) l.appended next)

-- memory was wanting before the next line
pub left-wanting : (a b : Writing) (all rest : List Line) → Left a b all rest → AppendsPart a b all
left-wanting a b all rest l =
    subst (λ xs. AppendsPart a b xs) (sym l.all_is) (writes-then wanting a b b l.done rest l.appended (none-part b rest))

-- a list of one element, so many times
pub replicate-next : {X : Type 0} (n i : ℕ) (x : X) → i < n → replicate (n - i) x ≡ (x ∷ []) ++ replicate (n - (i + 1)) x
replicate-next n i x h = let e : n - i ≡ suc (n - (i + 1)) = omega arith in ap (λ k. replicate k x) e

-- the lines of elements from a place on
pub map-next : {X : Type 0} (f : X → Line) (xs : List X) (i : ℕ) (x : X) → x ≡ get_or xs i x → i < length xs →
    map f (drop i xs) ≡ (f x ∷ []) ++ map f (drop (i + 1) xs)
map-next f xs i x e h = at_drop_more (map f) xs i x h ∙ ap (λ y. f y ∷ map f (drop (i + 1) xs)) (sym e)
