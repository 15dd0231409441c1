-- The grammar's parameters among the names of a function, in front of its own.
use Rattle.std.proofs.Common.{◌≡◌, ℕ, suc, ◌+◌, Bool, true, false, List, [], ◌∷◌, ◌++◌, length, map, Option, Some, refl, sym, ap, subst, ◌∙◌, arith, codes, append_assoc, length-append}
use Rattle.std.specs.Prelude.{slice_get}
use Rattle.std.specs.Str.{bytes_eq}
use Rattle.std.proofs.lemmas.List.{length-map}
use Rattle.std.proofs.lemmas.Slice.Eq.{bytes_eq-Decides}
use Rattle.lp_repr.specs.declared.values.Loc.{Loc}
use Rattle.lp_core.specs.Datum.{Cell}
use Rattle.lp_core.specs.Val.{Val, Plain}
use Rattle.lp_maker.specs.Slots.{Names, no_names, bound}
use Rattle.lp_turns.specs.Readings.{param_val}
use Rattle.lp_code_laws.specs.Slots.Shows.{Shows}
use Rattle.lp_code_laws.proofs.Slots.Names.{shows_this, shows_other}
use Rattle.lp_question_laws.specs.Reductions.Arguments.{ShowAll}
use Rattle.lp_question_laws.proofs.Reductions.Keys.{AllOuter}
use Rattle.lp_question_laws.proofs.Reductions.Spans.{start_val}
use Rattle.lp_question_laws.proofs.Reductions.Wholes.{Seen}

-- names, one after another
abbrev pub bound_each : Names → List (List ℕ) → Names
bound_each names [] = names
bound_each names (q ∷ qs) = bound_each (bound q names) qs

-- where a name stands again, it stands with the same number
abbrev pub Agrees : List ℕ → ℕ → List (List ℕ) → List ℕ → Type 0
Agrees q n [] [] = Unit {0}
Agrees q n [] (m ∷ ms) = ⊥
Agrees q n (p ∷ ps) [] = ⊥
Agrees q n (p ∷ ps) (m ∷ ms) = (p ≡ q → m ≡ n) × Agrees q n ps ms

abbrev pub AllAgree : List (List ℕ) → List ℕ → Type 0
AllAgree [] [] = Unit {0}
AllAgree [] (n ∷ ns) = ⊥
AllAgree (q ∷ qs) [] = ⊥
AllAgree (q ∷ qs) (n ∷ ns) = Agrees q n qs ns × AllAgree qs ns

pub agree_length : (qs : List (List ℕ)) (ns : List ℕ) → AllAgree qs ns → length qs ≡ length ns
agree_length [] [] a = refl
agree_length [] (n ∷ ns) a = absurd a
agree_length (q ∷ qs) [] a = absurd a
agree_length (q ∷ qs) (n ∷ ns) a = ap suc (agree_length qs ns a.1)

pub each_next : (qs : List (List ℕ)) (names : Names) → (bound_each names qs).next ≡ names.next + length qs
each_next [] names = omega arith
each_next (q ∷ qs) names = omega (arith, each_next qs (bound q names))

-- values stand in these slots
abbrev pub Stand : ℕ → List Val → List Val → Type 0
Stand k [] env = Unit {0}
Stand k (v ∷ vs) env = (slice_get env k ≡ Some v) × Stand (k + 1) vs env

pub stand_behind : (before vs rest : List Val) (k : ℕ) → k ≡ length before → Stand k vs (before ++ (vs ++ rest))
stand_behind before [] rest k is = tt
stand_behind before (v ∷ vs) rest k is =
    let one : length before + 1 ≡ length (before ++ v ∷ []) = sym (length-append before (v ∷ [])) in (
      ap (slice_get (before ++ (v ∷ (vs ++ rest)))) is ∙ here before v (vs ++ rest),
      subst (λ (env : List Val). Stand (k + 1) vs env) (append_assoc before (v ∷ []) (vs ++ rest)) (stand_behind (before ++ v ∷ []) vs rest (k + 1) (omega (arith, is, one))),
    )
  where
    here : (before : List Val) (v : Val) (rest : List Val) → slice_get (before ++ v ∷ rest) (length before) ≡ Some v
    here [] v rest = refl
    here (u ∷ before) v rest = here before v rest

-- no parameter has this name
abbrev pub IsApart : List ℕ → List (List ℕ) → Type 0
IsApart name [] = Unit {0}
IsApart name (q ∷ qs) = (bytes_eq name q ≡ false) × IsApart name qs

module _ (env : List Val) where
  -- one more name
  one_more : (q p : List ℕ) (n m : ℕ) (names : Names) → Shows names env q (param_val n) → slice_get env names.next ≡ Some (param_val m) → (p ≡ q → m ≡ n) → Shows (bound p names) env q (param_val n)
  one_more q p n m names shown here same = by (bytes_eq p q) refl
    where
      by : (b : Bool) → bytes_eq p q ≡ b → Shows (bound p names) env q (param_val n)
      by true is =
          let e : p ≡ q = (bytes_eq-Decides p q).0 is in
          let f : m ≡ n = same e in
          subst (λ (k : List ℕ). Shows (bound p names) env k (param_val n)) e (subst (λ (j : ℕ). Shows (bound p names) env p (param_val j)) f (shows_this p names env (param_val m) here))
      by false is = shows_other p is shown

  still_shown : (q : List ℕ) (n : ℕ) (qs : List (List ℕ)) (ns : List ℕ) (names : Names) → Agrees q n qs ns → Stand names.next (map param_val ns) env → Shows names env q (param_val n) → Shows (bound_each names qs) env q (param_val n)
  still_shown q n [] [] names a s h = h
  still_shown q n [] (m ∷ ms) names a s h = absurd a
  still_shown q n (p ∷ ps) [] names a s h = absurd a
  still_shown q n (p ∷ ps) (m ∷ ms) names a s h = still_shown q n ps ms (bound p names) a.1 s.1 (one_more q p n m names h s.0 a.0)

  -- the parameters are shown
  pub parameters_shown : (qs : List (List ℕ)) (ns : List ℕ) (names : Names) → AllAgree qs ns → Stand names.next (map param_val ns) env → ShowAll (bound_each names qs) env qs (map param_val ns)
  parameters_shown [] [] names a s = tt
  parameters_shown [] (n ∷ ns) names a s = absurd a
  parameters_shown (q ∷ qs) [] names a s = absurd a
  parameters_shown (q ∷ qs) (n ∷ ns) names a s =
      (still_shown q n qs ns (bound q names) a.0 s.1 (shows_this q names env (param_val n) s.0), refl, parameters_shown qs ns (bound q names) a.1 s.1)

  -- they still are behind a name that no parameter has
  pub shown_behind : (name : List ℕ) (qs : List (List ℕ)) (vs : List Val) (names : Names) → IsApart name qs → ShowAll names env qs vs → ShowAll (bound name names) env qs vs
  shown_behind name [] [] names a h = tt
  shown_behind name [] (v ∷ vs) names a h = absurd h
  shown_behind name (q ∷ qs) [] names a h = absurd h
  shown_behind name (q ∷ qs) (v ∷ vs) names a h = (shows_other name a.0 h.0, h.1, shown_behind name qs vs names a.1 h.2)

-- ---- what is seen where a body begins

-- the parameters bear no mark
pub record AreKeys (keys : List (List ℕ)) : Type 0 where
  pub outer : AllOuter keys
  pub action : IsApart (codes "~action") keys
  pub lookahead : IsApart (codes "~lookahead_start") keys
  pub states : IsApart (codes "~states") keys
  pub symbols : IsApart (codes "~symbols") keys

module _ (keys : List (List ℕ)) (ns : List ℕ) (agree : AllAgree keys ns) (apart : AreKeys keys) (start : Option Loc) where
  abbrev pub params : List Val
  params = map param_val ns

  params_many : length params ≡ length keys
  params_many = length-map ns param_val ∙ sym (agree_length keys ns agree)

  abbrev pub known : Names
  known = bound_each no_names keys

  known_next : known.next ≡ length params
  known_next = omega (arith, each_next keys no_names, params_many)

  -- in the function of a production
  abbrev pub own_names : Names
  own_names = bound (codes "~symbols") (bound (codes "~lookahead_start") known)

  abbrev pub own_values : List Val
  own_values = start_val start ∷ Plain (Cell 1) ∷ []

  pub own_seen : (rest : List Val) → Seen own_names ((params ++ own_values) ++ rest) start keys params
  own_seen rest =
      let env = (params ++ own_values) ++ rest in
      let same : params ++ (own_values ++ rest) ≡ env = sym (append_assoc params own_values rest) in
      let stands = subst (λ (e : List Val). Stand known.next own_values e) same (stand_behind params own_values rest known.next known_next) in
      let all = subst (λ (e : List Val). Stand 0 params e) same (stand_behind [] params (own_values ++ rest) 0 refl) in
      let first = parameters_shown env keys ns no_names agree all in
      record {
        list = shows_this (codes "~symbols") (bound (codes "~lookahead_start") known) env (Plain (Cell 1)) stands.1.0;
        lookahead = shows_other (codes "~symbols") refl (shows_this (codes "~lookahead_start") known env (start_val start) stands.0);
        handed = shown_behind env (codes "~symbols") keys params (bound (codes "~lookahead_start") known) apart.symbols (shown_behind env (codes "~lookahead_start") keys params known apart.lookahead first);
        outer = apart.outer;
      }

  pub own_next : own_names.next ≡ length (params ++ own_values)
  own_next = omega (arith, known_next, length-append params own_values)

  -- in the function that reduces
  abbrev pub all_names : Names
  all_names = bound (codes "~symbols") (bound (codes "~states") (bound (codes "~lookahead_start") (bound (codes "~action") known)))

  abbrev pub all_values : Val → List Val
  all_values action = action ∷ start_val start ∷ Plain (Cell 0) ∷ Plain (Cell 1) ∷ []

  module _ (action : Val) (rest : List Val) where
    abbrev all_env : List Val
    all_env = (params ++ all_values action) ++ rest

    all_stand : Stand known.next (all_values action) all_env
    all_stand = subst (λ (e : List Val). Stand known.next (all_values action) e) (sym (append_assoc params (all_values action) rest)) (stand_behind params (all_values action) rest known.next known_next)

    all_handed : ShowAll known all_env keys params
    all_handed = parameters_shown all_env keys ns no_names agree (subst (λ (e : List Val). Stand 0 params e) (sym (append_assoc params (all_values action) rest)) (stand_behind [] params (all_values action ++ rest) 0 refl))

    pub action_seen : Shows all_names all_env (codes "~action") action
    action_seen = shows_other (codes "~symbols") refl (shows_other (codes "~states") refl (shows_other (codes "~lookahead_start") refl (shows_this (codes "~action") known all_env action all_stand.0)))

    pub states_seen : Shows all_names all_env (codes "~states") (Plain (Cell 0))
    states_seen = shows_other (codes "~symbols") refl (shows_this (codes "~states") (bound (codes "~lookahead_start") (bound (codes "~action") known)) all_env (Plain (Cell 0)) all_stand.1.1.0)

    pub all_seen : Seen all_names all_env start keys params
    all_seen =
        let n1 = bound (codes "~action") known in
        let n2 = bound (codes "~lookahead_start") n1 in
        let n3 = bound (codes "~states") n2 in
        record {
          list = shows_this (codes "~symbols") n3 all_env (Plain (Cell 1)) all_stand.1.1.1.0;
          lookahead = shows_other (codes "~symbols") refl (shows_other (codes "~states") refl (shows_this (codes "~lookahead_start") n1 all_env (start_val start) all_stand.1.0));
          handed = shown_behind all_env (codes "~symbols") keys params n3 apart.symbols (shown_behind all_env (codes "~states") keys params n2 apart.states (shown_behind all_env (codes "~lookahead_start") keys params n1 apart.lookahead (shown_behind all_env (codes "~action") keys params known apart.action all_handed)));
          outer = apart.outer;
        }

  pub all_next : (action : Val) → all_names.next ≡ length (params ++ all_values action)
  all_next action = omega (arith, known_next, length-append params (all_values action))
