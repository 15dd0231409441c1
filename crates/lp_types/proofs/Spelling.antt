-- A text spells exactly one list of tokens.
use Rattle.std.proofs.Common.{◌≡◌, ℕ, ◌+◌, List, [], ◌∷◌, ◌++◌, Option, Some, None, MatchOption, Ok, Err, refl, sym, ap, ◌∙◌, subst, length, ◌-◌}
use Rattle.lp_tok.specs.declared.tok.Tok.{Tok}
use Rattle.lp_tok.specs.Token.{Item, token_of}
use Rattle.lp_types.specs.Marks.{Mark, mark_of}
use Rattle.lp_tok.proofs.OneList.{one_list}
use Rattle.lp_types.specs.declared.tokens.Where.{Where}
use Rattle.lp_types.specs.declared.tokens.Where.TheVariants.{Outside}
use Rattle.lp_types.specs.Left.{Left, token, ends, breaks}
use Rattle.lp_types.proofs.Marks.{same_mark}
use Rattle.lp_types.specs.Spelled.{Seen, AreSeen, seen_none, seen_token, seen_error, AreMarksOf, where_after, code_inside, AreInside, Spliced, spliced_end, spliced_error, spliced_token, Spells, IsSpelling}

-- what items are seen as
abbrev AfterSeen : List Item → List Seen → Type 0
AfterSeen [] marks = marks ≡ []
AfterSeen (Ok x ∷ items) marks = (t : Tok) × (rest : List Seen) × (x.1 ≡ token_of t) × AreSeen items rest × (marks ≡ Ok (x.0, mark_of t, x.2) ∷ rest)
AfterSeen (Err e ∷ items) marks = (rest : List Seen) × AreSeen items rest × (marks ≡ Err e ∷ rest)

after_seen : (items : List Item) (marks : List Seen) → AreSeen items marks → AfterSeen items marks
after_seen _ _ seen_none = refl
after_seen _ _ (seen_token from t to items marks more) = (t, marks, refl, more, refl)
after_seen _ _ (seen_error e items marks more) = (marks, more, refl)

seen_once : (items : List Item) (a b : List Seen) → AreSeen items a → AreSeen items b → a ≡ b
seen_once _ _ b seen_none other = sym (after_seen [] b other)
seen_once _ _ b (seen_token from t to items marks more) other =
    let same = after_seen (Ok (from, token_of t, to) ∷ items) b other in
    ap (λ m. Ok (from, m, to) ∷ marks) (same_mark t same.0 same.2) ∙ ap (λ l. Ok (from, mark_of same.0, to) ∷ l) (seen_once items marks same.1 more same.3) ∙ sym same.4
seen_once _ _ b (seen_error e items marks more) other =
    let same = after_seen (Err e ∷ items) b other in
    ap (λ l. Err e ∷ l) (seen_once items marks same.0 more same.1) ∙ sym same.2

marks_same : (text : List ℕ) (offset : ℕ) (a b : List Seen) → AreMarksOf text offset a → AreMarksOf text offset b → a ≡ b
marks_same text offset a b one other =
    let same : one.items ≡ other.items = one_list _ _ one.items other.items one.fit other.fit in
    seen_once other.items a b (subst (λ items. AreSeen items a) same one.seen) other.seen

-- the tokens that follow a token are the only ones
inside_of_code : (o : Option (List ℕ)) (to : ℕ) (a b : List Seen) → MatchOption o (a ≡ []) (λ code. AreMarksOf code (to - length code) a) → MatchOption o (b ≡ []) (λ code. AreMarksOf code (to - length code) b) → a ≡ b
inside_of_code None to a b one other = one ∙ sym other
inside_of_code (Some code) to a b one other = marks_same code (to - length code) a b one other

inside_same : (w : Where) (m : Mark) (to : ℕ) (a b : List Seen) → AreInside w m to a → AreInside w m to b → a ≡ b
inside_same w m to a b one other = inside_of_code (code_inside w m) to a b one other

-- what the first item says of the tokens
abbrev AfterItem : ℕ → Where → List Seen → Left → Type 0
AfterItem end w [] ts = ts ≡ ends end
AfterItem end w (Ok x ∷ marks) ts = (inside : List Seen) × (rest : Left) × AreInside w x.1 x.2 inside × Spliced end (where_after w x.1) (inside ++ marks) rest × (ts ≡ token x.0 x.1 x.2 rest)
AfterItem end w (Err e ∷ marks) ts = ts ≡ breaks e

after_item : (end : ℕ) (w : Where) (marks : List Seen) (ts : Left) → Spliced end w marks ts → AfterItem end w marks ts
after_item end _ _ _ (spliced_end w) = refl
after_item end _ _ _ (spliced_error w e marks) = refl
after_item end _ _ _ (spliced_token w from m to marks inside rest are more) = (inside, rest, are, more, refl)

spliced_same : (end : ℕ) (w : Where) (marks : List Seen) (a b : Left) → Spliced end w marks a → Spliced end w marks b → a ≡ b
spliced_same end _ _ _ b (spliced_end w) other = sym (after_item end w [] b other)
spliced_same end _ _ _ b (spliced_error w e marks) other = sym (after_item end w (Err e ∷ marks) b other)
spliced_same end _ _ _ b (spliced_token w from m to marks inside rest are more) other =
    let same = after_item end w (Ok (from, m, to) ∷ marks) b other in
    let one : same.0 ≡ inside = inside_same w m to same.0 inside same.2 are in
    let tail : rest ≡ same.1 = spliced_same end (where_after w m) (inside ++ marks) rest same.1 more (subst (λ i. Spliced end (where_after w m) (i ++ marks) same.1) one same.3) in
    ap (token from m to) tail ∙ sym same.4

spells_same : (text : List ℕ) (offset : ℕ) (a b : Left) → Spells text offset a → Spells text offset b → a ≡ b
spells_same text offset a b one other =
    let end : ℕ = length text + offset in
    let plain : other.plain ≡ one.plain = marks_same text offset other.plain one.plain other.fit one.fit in
    spliced_same end Outside one.plain a b one.spliced (subst (λ marks. Spliced end Outside marks b) plain other.spliced)

-- what a text spells is the only thing that it spells
pub only_spelling : (text : List ℕ) (offset : ℕ) (plain : List Seen) (tokens : Left) → AreMarksOf text offset plain → Spliced (length text + offset) Outside plain tokens → IsSpelling text offset tokens
only_spelling text offset plain tokens fit spliced =
    let spelled : Spells text offset tokens = record { plain = plain; fit = fit; spliced = spliced } in
    record { spelled = spelled; no_other = λ others so. spells_same text offset others tokens so spelled }
