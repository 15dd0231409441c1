-- One piece more in a cut, and that a cut has one answer.
use Rattle.std.proofs.Common.{◌≡◌, ℕ, ◌+◌, ◌<◌, ◌≤◌, List, [], ◌∷◌, ◌++◌, ◌⊎◌, inl, inr, ⊎_elim, refl, sym, ap, ◌∙◌, subst, append_assoc, append-nil, arith, zero, suc}
use Rattle.std.specs.Prelude.{Some, None}
use Rattle.std.proofs.lemmas.Bool.{eq-eqb}
use Rattle.lp_tok.specs.Scans.{past}
use Rattle.lp_tok.proofs.ScanSteps.{past_some}
use Rattle.lp_tok.specs.declared.tok.ErrorCode.{ErrorCode}
use Rattle.lp_tok.specs.declared.quoted.Kind.{Kind}
use Rattle.lp_tok.specs.declared.quoted.Kind.TheVariants.{Opening, Closing, Separating, Plain}
use Rattle.lp_tok.specs.CodePieces.{code_piece, Whole, Fault, Nothing}
use Rattle.lp_tok.specs.Cut.{Splits, splits_none, splits_one, openers, closers, balance, open_after, IsEnder, IsInside, MayEnd, StopsAt, BreaksAt, IsUnclosed}

-- the pieces read so far, none of which ends the cut, with n brackets open
pub record IsReading (cs rest : List ℕ) (n : ℕ) : Type 0 where
  pub pieces : List Kind
  pub inside : IsInside cs pieces rest
  pub depth : openers pieces ≡ n + closers pieces

-- one piece more
splits_more : (cs rest next : List ℕ) (ks : List Kind) (k : Kind) → Splits cs ks rest → code_piece rest ≡ Whole k next → Splits cs (ks ++ k ∷ []) next
splits_more _ _ next _ k (splits_none cs) piece = splits_one cs next next k [] piece (splits_none next)
splits_more _ _ next _ k (splits_one cs after rest j ks first more) piece = splits_one cs after next j (ks ++ k ∷ []) first (splits_more after rest next ks k more piece)

-- a place in a list with one piece more is the last one or a place in the list
snoc_place : (ks before after : List Kind) (k j : Kind) → ks ++ k ∷ [] ≡ before ++ j ∷ after → ((ks ≡ before) × (k ≡ j)) ⊎ ((more : List Kind) × (ks ≡ before ++ j ∷ more))
snoc_place [] [] after k j e = inl (refl, cc)
snoc_place [] (b ∷ []) after k j e = absurd cc
snoc_place [] (b ∷ d ∷ before) after k j e = absurd cc
snoc_place (x ∷ ks) [] after k j e = inr (ks, cc)
snoc_place (x ∷ ks) (b ∷ before) after k j e =
    let head : x ≡ b = cc in
    let tail : ks ++ k ∷ [] ≡ before ++ j ∷ after = cc in
    ⊎_elim (λ last. let e0 = last.0 in let e1 = last.1 in inl (cc, e1)) (λ place. let e0 = place.1 in inr (place.0, cc)) (snoc_place ks before after k j tail)

-- no piece was read yet
pub reading_none : (cs : List ℕ) → IsReading cs cs 0
reading_none cs = record {
  pieces = [];
  inside = record { splits = splits_none cs; goes_on = go };
  depth = refl;
}
  where
    go : (before after : List Kind) (k : Kind) → [] ≡ before ++ k ∷ after → IsEnder k → 0 < balance before
    go [] after k e ender = absurd cc
    go (b ∷ before) after k e ender = absurd cc

openers_more : (ks : List Kind) (k : Kind) → openers (ks ++ k ∷ []) ≡ openers ks + openers (k ∷ [])
openers_more [] k = omega arith
openers_more (Opening ∷ ks) k = omega (arith, openers_more ks k)
openers_more (Closing ∷ ks) k = openers_more ks k
openers_more (Separating ∷ ks) k = openers_more ks k
openers_more (Plain ∷ ks) k = openers_more ks k

closers_more : (ks : List Kind) (k : Kind) → closers (ks ++ k ∷ []) ≡ closers ks + closers (k ∷ [])
closers_more [] k = omega arith
closers_more (Opening ∷ ks) k = closers_more ks k
closers_more (Closing ∷ ks) k = omega (arith, closers_more ks k)
closers_more (Separating ∷ ks) k = closers_more ks k
closers_more (Plain ∷ ks) k = closers_more ks k

-- the count after one piece more
open_more : (ks : List Kind) (k : Kind) (n : ℕ) → openers ks ≡ n + closers ks → (IsEnder k → 0 < n) → openers (ks ++ k ∷ []) ≡ open_after n k + closers (ks ++ k ∷ [])
open_more ks Opening n e goes = omega (arith, openers_more ks Opening, closers_more ks Opening)
open_more ks Closing n e goes = omega (arith, openers_more ks Closing, closers_more ks Closing, goes tt)
open_more ks Separating n e goes = omega (arith, openers_more ks Separating, closers_more ks Separating)
open_more ks Plain n e goes = omega (arith, openers_more ks Plain, closers_more ks Plain)

-- one piece more that doesn't end the cut
pub reading_more : (cs rest next : List ℕ) (n : ℕ) (k : Kind) → IsReading cs rest n → code_piece rest ≡ Whole k next → (IsEnder k → 0 < n) → IsReading cs next (open_after n k)
reading_more cs rest next n k reading piece goes = record {
  pieces = reading.pieces ++ k ∷ [];
  inside = record {
    splits = splits_more cs rest next reading.pieces k reading.inside.splits piece;
    goes_on = λ before after j e ender. ⊎_elim
        (λ last. let same : IsEnder k = subst IsEnder (sym last.1) ender in let less : 0 < balance reading.pieces = omega (arith, goes same, reading.depth) in subst (λ l. 0 < balance l) last.0 less)
        (λ place. reading.inside.goes_on before place.0 j place.1 ender)
        (snoc_place reading.pieces before after k j e);
  };
  depth = open_more reading.pieces k n reading.depth goes;
}

-- the cut stops where no bracket is open and a piece may end it
pub stops_at_piece : (cs rest next : List ℕ) (k : Kind) → IsReading cs rest 0 → code_piece rest ≡ Whole k next → IsEnder k → StopsAt cs rest
stops_at_piece cs rest next k reading piece ender = (reading.pieces, reading.inside, omega (arith, reading.depth), inl (k, next, piece, ender))

-- and where nothing is left
pub stops_at_end : (cs rest : List ℕ) → IsReading cs rest 0 → code_piece rest ≡ Nothing → StopsAt cs rest
stops_at_end cs rest reading piece = (reading.pieces, reading.inside, omega (arith, reading.depth), inr piece)

pub breaks_at_piece : (cs rest place : List ℕ) (n : ℕ) (code : ErrorCode) → IsReading cs rest n → code_piece rest ≡ Fault code place → BreaksAt cs code place
breaks_at_piece cs rest place n code reading piece = (reading.pieces, rest, reading.inside, piece)

pub unclosed_at_end : (cs rest : List ℕ) (n : ℕ) → IsReading cs rest n → code_piece rest ≡ Nothing → (n ≡ 0 → ⊥) → IsUnclosed cs
unclosed_at_end cs rest n reading piece some = (reading.pieces, rest, reading.inside, piece, omega (arith, reading.depth))

-- a piece opens one bracket at most
pub open_after_le : (n : ℕ) (k : Kind) → open_after n k ≤ n + 1
open_after_le n Opening = omega arith
open_after_le n Closing = omega arith
open_after_le n Separating = omega arith
open_after_le n Plain = omega arith

-- a bracket is open where the cut doesn't end at a piece that could end it
pub some_open : (n : ℕ) (k : Kind) → ((n ≡ 0) × IsEnder k → ⊥) → IsEnder k → 0 < n
some_open zero k stays ender = absurd (stays (refl, ender))
some_open (suc n) k stays ender = omega arith

-- no piece goes on at r after these pieces
abbrev Halts : List Kind → List ℕ → Type 0
Halts ks r = (k : Kind) (next : List ℕ) → code_piece r ≡ Whole k next → IsEnder k × (balance ks ≡ 0)

abbrev GoesOn : List Kind → Type 0
GoesOn ks = (before after : List Kind) (k : Kind) → ks ≡ before ++ k ∷ after → IsEnder k → 0 < balance before

halts_may_end : (ks : List Kind) (r : List ℕ) → balance ks ≡ 0 → MayEnd r → Halts ks r
halts_may_end ks r none (inl ends) k next piece = let same : ends.0 ≡ k = cc (ends.2, piece) in (subst IsEnder same ends.3, none)
halts_may_end ks r none (inr nothing) k next piece = absurd cc

-- what is read before the halt is the same
same_halt : (all bll acc ks js : List Kind) (cs r s : List ℕ) → all ≡ acc ++ ks → bll ≡ acc ++ js → GoesOn all → GoesOn bll → Halts all r → Halts bll s → Splits cs ks r → Splits cs js s → (all ≡ bll) × (r ≡ s)
same_halt all bll acc _ _ _ _ _ e f g h u v (splits_none cs) (splits_none _) = (e ∙ sym f, refl)
same_halt all bll acc _ _ _ _ _ e f g h u v (splits_none cs) (splits_one _ next s k js piece more) =
    let end = u k next piece in
    let whole : all ≡ acc = e ∙ append-nil acc in
    let some : 0 < balance acc = h acc js k f end.0 in
    let none : balance acc ≡ 0 = subst (λ l. balance l ≡ 0) whole end.1 in
    absurd (omega arith)
same_halt all bll acc _ _ _ _ _ e f g h u v (splits_one cs next r k ks piece more) (splits_none _) =
    let end = v k next piece in
    let whole : bll ≡ acc = f ∙ append-nil acc in
    let some : 0 < balance acc = g acc ks k e end.0 in
    let none : balance acc ≡ 0 = subst (λ l. balance l ≡ 0) whole end.1 in
    absurd (omega arith)
same_halt all bll acc _ _ _ _ _ e f g h u v (splits_one cs next r k ks piece more) (splits_one _ next' s j js piece' more') =
    let kind : j ≡ k = cc in
    let rest : next' ≡ next = cc in
    same_halt all bll (acc ++ k ∷ []) ks js next r s
    (e ∙ sym (append_assoc acc (k ∷ []) ks))
    (f ∙ ap (λ x. acc ++ x ∷ js) kind ∙ sym (append_assoc acc (k ∷ []) js))
    g h u v more (subst (λ x. Splits x js s) rest more')

-- a cut stops at one place
pub stops_same : (cs r s : List ℕ) → StopsAt cs r → StopsAt cs s → r ≡ s
stops_same cs r s a b = (same_halt a.0 b.0 [] a.0 b.0 cs r s refl refl a.1.goes_on b.1.goes_on (halts_may_end a.0 r a.2 a.3) (halts_may_end b.0 s b.2 b.3) a.1.splits b.1.splits).1

-- and doesn't fail there
pub stops_breaks : (cs r place : List ℕ) (code : ErrorCode) → StopsAt cs r → BreaksAt cs code place → ⊥
stops_breaks cs r place code a b =
    let same : r ≡ b.1 = (same_halt a.0 b.0 [] a.0 b.0 cs r b.1 refl refl a.1.goes_on b.2.goes_on (halts_may_end a.0 r a.2 a.3) (λ k next piece. let fault = b.3 in absurd cc) a.1.splits b.2.splits).1 in
    elim a.3 [
      | inl ends ↦ let piece = ends.2 in let fault = b.3 in cc
      | inr nothing ↦ let fault = b.3 in cc
    ]

pub stops_unclosed : (cs r : List ℕ) → StopsAt cs r → IsUnclosed cs → ⊥
stops_unclosed cs r a b =
    let same : a.0 ≡ b.0 = (same_halt a.0 b.0 [] a.0 b.0 cs r b.1 refl refl a.1.goes_on b.2.goes_on (halts_may_end a.0 r a.2 a.3) (λ k next piece. let nothing = b.3 in absurd cc) a.1.splits b.2.splits).0 in
    let none : balance b.0 ≡ 0 = subst (λ l. balance l ≡ 0) same a.2 in
    omega (arith, b.4)

-- the cut stops where one character is left
pub last_left : (c : ℕ) (cs at after : List ℕ) → Some after ≡ past c at → StopsAt cs at → (after ≡ [] → StopsAt cs (c ∷ [])) × (StopsAt cs (c ∷ []) → after ≡ [])
last_left c cs at after found stops =
    let split = past_some c at after found in (
      λ done. subst (StopsAt cs) (split ∙ ap (λ x. c ∷ x) done) stops,
      λ last. let same = stops_same cs at (c ∷ []) stops last in cc,
    )

pub no_last_left : (c : ℕ) (cs at : List ℕ) → None ≡ past c at → StopsAt cs at → StopsAt cs (c ∷ []) → ⊥
no_last_left c cs at none stops last =
    let same = stops_same cs at (c ∷ []) stops last in
    let found : past c (c ∷ []) ≡ Some [] = rw (eq-eqb c c refl) refl in
    let none_here : None ≡ past c (c ∷ []) = none ∙ ap (past c) same in
    cc

-- the same cut, at equal texts
pub stops_at_equal : (a b c d : List ℕ) → a ≡ c → b ≡ d → StopsAt a b → StopsAt c d
stops_at_equal a b c d e f s = subst (λ x. StopsAt x d) e (subst (StopsAt a) f s)

pub breaks_at_equal : (a b c d : List ℕ) (code : ErrorCode) → a ≡ c → b ≡ d → BreaksAt a code b → BreaksAt c code d
breaks_at_equal a b c d code e f s = subst (λ x. BreaksAt x code d) e (subst (BreaksAt a code) f s)

-- a cut fails at one place
pub breaks_same : (cs p q : List ℕ) (code other : ErrorCode) → BreaksAt cs code p → BreaksAt cs other q → (code ≡ other) × (p ≡ q)
breaks_same cs p q code other a b =
    let same : a.1 ≡ b.1 = (same_halt a.0 b.0 [] a.0 b.0 cs a.1 b.1 refl refl a.2.goes_on b.2.goes_on (λ k next piece. let fault = a.3 in absurd cc) (λ k next piece. let fault = b.3 in absurd cc) a.2.splits b.2.splits).1 in
    let one = a.3 in
    let two = b.3 in
    (cc, cc)

pub breaks_unclosed : (cs p : List ℕ) (code : ErrorCode) → BreaksAt cs code p → IsUnclosed cs → ⊥
breaks_unclosed cs p code a b =
    let same : a.1 ≡ b.1 = (same_halt a.0 b.0 [] a.0 b.0 cs a.1 b.1 refl refl a.2.goes_on b.2.goes_on (λ k next piece. let fault = a.3 in absurd cc) (λ k next piece. let nothing = b.3 in absurd cc) a.2.splits b.2.splits).1 in
    let one = a.3 in
    let two = b.3 in
    cc
