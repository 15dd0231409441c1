-- Steps over what is left of a text, and the places of its ends.
use Rattle.std.proofs.Common.{◌≡◌, ℕ, ◌-◌, ◌≤◌, List, [], ◌∷◌, ◌++◌, length, take, drop, IsUtf8, refl, sym, ap, ◌∙◌, subst, append_assoc, append-nil, arith, length-append, take-append-drop}
use Rattle.std.specs.Prelude.{encode_utf8_all}
use Rattle.std.specs.Str.{chars, IsCharBoundary}
use Rattle.std.proofs.Math.Seq.{drop-append_seam, take-append_seam}
use Rattle.std.proofs.lemmas.Str.{chars-nil, chars-append, encodes-chars, IsCharBoundary-at_seam}
use Rattle.lp_tok.specs.Left.{left, size, Follows, EndsIn}
use Rattle.lp_tok.specs.Pieces.{text_between}
use Rattle.lp_tok.specs.declared.rest.Rest.{Rest}

-- a text with nothing behind it
pub nothing_behind : (t : List ℕ) → chars t ++ chars [] ≡ chars t
nothing_behind t = rw chars-nil (append-nil (chars t))

-- the text is done, so what stands behind it comes next
pub next_behind : (t b after : List ℕ) (c : ℕ) → t ≡ [] → chars b ≡ c ∷ chars after → chars t ++ chars b ≡ c ∷ (chars t ++ chars after)
next_behind t b after c done first = rw (done, chars-nil) first

-- both are done
pub done_both : (t b : List ℕ) → t ≡ [] → b ≡ [] → chars t ++ chars b ≡ []
done_both t b done done_behind = rw (done, done_behind, chars-nil) refl

-- ends of ends are ends
pub follows_follows : (a b c : Rest) → Follows a b → Follows b c → Follows a c
follows_follows a b c f g = record {
  read = f.read ++ g.read;
  text = f.text ∙ ap (λ x. f.read ++ x) g.text ∙ sym (append_assoc f.read g.read c.text.now);
  read_behind = f.read_behind ++ g.read_behind;
  behind = f.behind ∙ ap (λ x. f.read_behind ++ x) g.behind ∙ sym (append_assoc f.read_behind g.read_behind c.behind.now);
}

-- nothing is read yet
pub follows_itself : (a : Rest) → Follows a a
follows_itself a = record { read = []; text = refl; read_behind = []; behind = refl }

-- the second part of an empty list is empty
empty_end : (xs ys : List ℕ) → [] ≡ xs ++ ys → ys ≡ []
empty_end [] ys e = sym e
empty_end (x ∷ xs) ys e = absurd cc

-- where nothing stands behind a text, nothing stands behind its ends
pub alone_follows : (a b : Rest) → Follows a b → a.behind.now ≡ [] → b.behind.now ≡ []
alone_follows a b f alone = empty_end f.read_behind b.behind.now (sym alone ∙ f.behind)

pub left_alone : (a : Rest) → a.behind.now ≡ [] → left a ≡ chars a.text.now
left_alone a alone = ap (λ b. chars a.text.now ++ chars b) alone ∙ nothing_behind a.text.now

-- what follows has a text that is an end of the text
pub ends_in_follows : (a b : Rest) → Follows a b → EndsIn a.text.now b.text.now
ends_in_follows a b f = record { front = f.read; split = f.text }

-- so is an end of an end of a text
pub ends_in_drop : (text : List ℕ) (from : ℕ) (front rest : List ℕ) → drop from text ≡ front ++ rest → EndsIn text rest
ends_in_drop text from front rest split = record {
  front = take from text ++ front;
  split = sym (take-append-drop from text) ∙ ap (λ x. take from text ++ x) split ∙ sym (append_assoc (take from text) front rest);
}

-- an end of a text begins where so many bytes come before it
front_length : (text rest : List ℕ) (e : EndsIn text rest) → length text - length rest ≡ length e.front
front_length text rest e = omega (arith, ap length e.split, length-append e.front rest)

pub drop_front : (text rest : List ℕ) → EndsIn text rest → drop (length text - length rest) text ≡ rest
drop_front text rest e = ap (λ n. drop n text) (front_length text rest e) ∙ ap (drop (length e.front)) e.split ∙ drop-append_seam e.front rest

-- a text may be cut where an end of it begins
pub boundary_front : (text rest : List ℕ) → EndsIn text rest → IsUtf8 rest → IsCharBoundary text (length text - length rest)
boundary_front text rest e utf8 = subst (IsCharBoundary text) (sym (front_length text rest e)) (IsCharBoundary-at_seam text e.front rest e.split utf8)

-- the text before an end of a text
pub between_front : (text rest front : List ℕ) → text ≡ front ++ rest → IsUtf8 front → front ≡ text_between (chars text) (chars rest)
between_front text rest front split utf8 =
    let parts : chars text ≡ chars front ++ chars rest = ap chars split ∙ chars-append front rest utf8 in
    let n : length (chars text) - length (chars rest) ≡ length (chars front) = omega (arith, ap length parts, length-append (chars front) (chars rest)) in
    sym (ap (λ k. encode_utf8_all (take k (chars text))) n ∙ ap (λ cs. encode_utf8_all (take (length (chars front)) cs)) parts ∙ ap encode_utf8_all (take-append_seam (chars front) (chars rest)) ∙ encodes-chars front utf8)

-- the same of what is left
pub between_alone : (a b : Rest) (t : List ℕ) → Follows a b → a.behind.now ≡ [] → t ≡ text_between (chars a.text.now) (chars b.text.now) → t ≡ text_between (left a) (left b)
between_alone a b t f alone e = e ∙ (λ i. text_between (sym (left_alone a alone) i) (sym (left_alone b (alone_follows a b f alone)) i))

-- no more bytes are left of what follows
pub size_follows : (a b : Rest) → Follows a b → size b ≤ size a
size_follows a b f = omega (arith, ap length f.text, ap length f.behind, length-append f.read b.text.now, length-append f.read_behind b.behind.now)
