-- The pieces of a text: there is one way through them.
use Rattle.std.proofs.Common.{◌≡◌, ℕ, ◌<◌, ◌≤◌, List, length, ◌⊎◌, inl, inr, ⊎_elim, refl, sym, subst, arith}
use Rattle.lp_texts.specs.Quotes.{Piece, Quote, Unended, Single, Nothing, piece}
use Rattle.lp_texts.specs.Brackets.{Onward, Stuck, step_over, Leads, leads_none, leads_one}
use Rattle.lp_texts.proofs.Lengths.{LeavesFewer, piece_fewer}

onward_fewer : (n : ℕ) (before : List ℕ) (p : Piece) (next inner : List ℕ) → LeavesFewer n p → step_over before p ≡ Onward next inner → length next < n
onward_fewer n before (Quote after) next inner h e = let same : after ≡ next = cc in subst (λ x. length x < n) same h
onward_fewer n before Unended next inner h e = absurd cc
onward_fewer n before (Single c after) next inner h e = let same : after ≡ next = cc in subst (λ x. length x < n) same h
onward_fewer n before Nothing next inner h e = absurd cc

-- a step leaves fewer bytes
pub step_fewer : (text before next inner : List ℕ) → step_over before (piece text) ≡ Onward next inner → length next < length text
step_fewer text before next inner e = onward_fewer (length text) before (piece text) next inner (piece_fewer text) e

-- one step more
pub leads_more : (text before rest brackets next inner : List ℕ) → Leads text before rest brackets → step_over brackets (piece rest) ≡ Onward next inner → Leads text before next inner
leads_more _ _ _ _ next inner (leads_none text before) e = leads_one text before next inner next inner e (leads_none next inner)
leads_more _ _ _ _ next inner (leads_one text before mid within rest brackets first more) e = leads_one text before mid within next inner first (leads_more mid within rest brackets next inner more e)

leads_fewer : (text before rest brackets : List ℕ) → Leads text before rest brackets → length rest ≤ length text
leads_fewer _ _ _ _ (leads_none text before) = omega arith
leads_fewer _ _ _ _ (leads_one text before mid within rest brackets first more) = omega (arith, leads_fewer mid within rest brackets more, step_fewer text before mid within first)

-- of two places one lies on the way to the other
one_way : (text before r o s p : List ℕ) → Leads text before r o → Leads text before s p → Leads r o s p ⊎ Leads s p r o
one_way _ _ _ _ s p (leads_none text before) b = inl b
one_way _ _ r o _ _ (leads_one text before mid within _ _ first more) (leads_none _ _) = inr (leads_one text before mid within r o first more)
one_way _ _ r o s p (leads_one text before mid within _ _ first more) (leads_one _ _ mid' within' _ _ first' more') =
    let at : mid' ≡ mid = cc in
    let brackets : within' ≡ within = cc in
    one_way mid within r o s p more (subst (λ x. Leads x within s p) at (subst (λ x. Leads mid' x s p) brackets more'))

-- a way that takes no byte takes no step
no_way : (r o s p : List ℕ) → Leads r o s p → length r ≤ length s → (r ≡ s) × (o ≡ p)
no_way _ _ _ _ (leads_none text before) h = (refl, refl)
no_way _ _ _ _ (leads_one text before mid within rest brackets first more) h = absurd (omega (arith, step_fewer text before mid within first, leads_fewer mid within rest brackets more))

-- at one place the same brackets are open
pub same_place : (text before r o s p : List ℕ) → Leads text before r o → Leads text before s p → length r ≡ length s → (r ≡ s) × (o ≡ p)
same_place text before r o s p a b e =
    ⊎_elim
    (λ way. no_way r o s p way (omega arith))
    (λ way. let same = no_way s p r o way (omega arith) in (sym same.0, sym same.1))
    (one_way text before r o s p a b)

past_step : (r o next inner s p : List ℕ) → step_over o (piece r) ≡ Onward next inner → Leads r o s p → length s < length r → length s ≤ length next
past_step _ _ next inner _ _ e (leads_none text before) h = absurd (omega arith)
past_step _ _ next inner _ _ e (leads_one text before mid within rest brackets first more) h =
    let same : mid ≡ next = cc in
    let fewer = leads_fewer mid within rest brackets more in
    subst (λ x. length rest ≤ length x) same fewer

-- no place lies inside a piece
pub no_place_inside : (text before r o next inner s p : List ℕ) → Leads text before r o → step_over o (piece r) ≡ Onward next inner → Leads text before s p → length s < length r → length next < length s → ⊥
no_place_inside text before r o next inner s p a e b less more =
    ⊎_elim
    (λ way. omega (arith, past_step r o next inner s p e way less))
    (λ way. omega (arith, leads_fewer s p r o way))
    (one_way text before r o s p a b)

never_stuck : (r o s p : List ℕ) → step_over o (piece r) ≡ Stuck → Leads r o s p → length s < length r → ⊥
never_stuck _ _ _ _ e (leads_none text before) h = omega arith
never_stuck _ _ _ _ e (leads_one text before mid within rest brackets first more) h = cc

-- and none behind a piece without an end
pub no_place_behind : (text before r o s p : List ℕ) → Leads text before r o → step_over o (piece r) ≡ Stuck → Leads text before s p → length s < length r → ⊥
no_place_behind text before r o s p a e b less =
    ⊎_elim
    (λ way. never_stuck r o s p e way less)
    (λ way. omega (arith, leads_fewer s p r o way))
    (one_way text before r o s p a b)
