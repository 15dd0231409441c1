-- Words, by their first character and by all of them.
use Rattle.std.proofs.Common.{◌≡◌, ℕ, ◌<◌, Bool, true, false, ◌&&◌, List, [], ◌∷◌, length, get_or, refl, arith, sym, ap, ◌∙◌, subst, ◌==◌, ◌||◌, eq-eqb}
use Rattle.std.specs.List.{list_all}
use Rattle.std.specs.Char.{is_ascii_alphanumeric}
use Rattle.unicode_ident.specs.Ident.{is_xid_start, is_xid_continue}
use Rattle.lp_valid.specs.NameRules.{begins_word, is_word}

pub no_word : (cs : List ℕ) → 0 ≡ length cs → false ≡ is_word cs
no_word [] e = refl
no_word (c ∷ cs) e = absurd (omega arith)

both : (a b d : Bool) → a ≡ true → b ≡ true → (b && d) ≡ (a && d)
both a b d x y = ap (λ z. z && d) (y ∙ sym x)

-- a word that begins as it can goes on with characters that can stand further on
pub word_begins : (cs : List ℕ) (first : ℕ) → (0 < length cs) × (first ≡ get_or cs 0 first) → begins_word first ≡ true → is_xid_continue first ≡ true → list_all is_xid_continue cs ≡ is_word cs
word_begins [] first h b k = absurd (omega (arith, h.0))
word_begins (c ∷ cs) first h b k =
    let e : first ≡ c = h.1 in
    both (begins_word c) (is_xid_continue c) (list_all is_xid_continue cs) (subst (λ x. begins_word x ≡ true) e b) (subst (λ x. is_xid_continue x ≡ true) e k)

pub word_fails : (cs : List ℕ) (first : ℕ) → (0 < length cs) × (first ≡ get_or cs 0 first) → begins_word first ≡ false → false ≡ is_word cs
word_fails [] first h b = refl
word_fails (c ∷ cs) first h b =
    let e : first ≡ c = h.1 in
    sym (ap (λ z. z && list_all is_xid_continue cs) (subst (λ x. begins_word x ≡ false) e b))

or_true : (b : Bool) → (b || true) ≡ true
or_true true = refl
or_true false = refl

-- `_` may stand in a word
pub underscore : (c : ℕ) (r : Bool) → c ≡ 95 → (c < 128 → r ≡ (is_ascii_alphanumeric c || (c == 95))) → r ≡ begins_word c
underscore c r e h =
    let t : (c == 95) ≡ true = eq-eqb c 95 e in
    h (omega arith) ∙ (ap (λ b. is_ascii_alphanumeric c || b) t ∙ (or_true (is_ascii_alphanumeric c) ∙ sym (ap (λ b. b || is_xid_start c) t)))
