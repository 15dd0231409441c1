-- One more of what is numbered, between what is done and what is to come.
use Rattle.std.proofs.Common.{◌≡◌, ℕ, suc, ◌+◌, ◌<◌, List, [], ◌∷◌, ◌++◌, length, drop, get_or, ap, sym, ◌∙◌, append_assoc, drop-cons, add-one}
use Rattle.lp_repr.specs.declared.lr1.Token.{Token}
use Rattle.lp_repr.specs.declared.repr.Grammar.{Grammar}
use Rattle.lp_repr.specs.declared.repr.Symbol.{Symbol}
use Rattle.lp_repr.specs.declared.repr.TerminalString.{TerminalString}
use Rattle.lp_ascent.specs.ReduceLines.{patterns_from, terminal_patterns}
use Rattle.lp_ascent.specs.StateLines.{slot_parameter, slot_parameters}

-- what is left begins with what is read
pub drop_read : {X : Type 0} (xs : List X) (n : ℕ) (x : X) → n < length xs → x ≡ get_or xs n x → drop n xs ≡ x ∷ drop (n + 1) xs
drop_read {X} xs n x h is =
    drop-cons xs n x h ∙ (ap (λ (y : X). y ∷ drop (suc n) xs) (sym is) ∙ ap (λ (k : ℕ). x ∷ drop k xs) (sym (add-one n)))

pub slots_next :
    (g : Grammar) (optional n : ℕ) (done : List (List ℕ)) (symbols : List Symbol) (s : Symbol) (p : List ℕ) →
    n < length symbols → s ≡ get_or symbols n s → p ≡ slot_parameter g optional n s →
    (done ++ p ∷ []) ++ slot_parameters g optional (n + 1) (drop (n + 1) symbols) ≡ done ++ slot_parameters g optional n (drop n symbols)
slots_next g optional n done symbols s p h is e =
    append_assoc done (p ∷ []) (slot_parameters g optional (n + 1) (drop (n + 1) symbols))
    ∙ ap (λ (rest : List (List ℕ)). done ++ rest)
    (ap (λ (q : List ℕ). q ∷ slot_parameters g optional (n + 1) (drop (n + 1) symbols)) e
    ∙ ap (slot_parameters g optional n) (sym (drop_read symbols n s h is)))

pub patterns_next :
    (g : Grammar) (tokens : List Token) (n : ℕ) (done : List (List ℕ)) (terminals : List TerminalString) (t : TerminalString) (after : List (List ℕ)) →
    n < length terminals → t ≡ get_or terminals n t → after ≡ done ++ terminal_patterns g tokens n t →
    after ++ patterns_from g tokens (n + 1) (drop (n + 1) terminals) ≡ done ++ patterns_from g tokens n (drop n terminals)
patterns_next g tokens n done terminals t after h is e =
    ap (λ (xs : List (List ℕ)). xs ++ patterns_from g tokens (n + 1) (drop (n + 1) terminals)) e
    ∙ (append_assoc done (terminal_patterns g tokens n t) (patterns_from g tokens (n + 1) (drop (n + 1) terminals))
    ∙ ap (λ (rest : List (List ℕ)). done ++ rest) (ap (patterns_from g tokens n) (sym (drop_read terminals n t h is))))
