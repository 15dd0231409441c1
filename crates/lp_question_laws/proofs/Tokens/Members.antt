-- What the patterns of a group are read as: their forms, and what they capture.
use Rattle.std.proofs.Common.{◌≡◌, ℕ, zero, suc, ◌+◌, ◌<◌, ◌^◌, List, [], ◌∷◌, ◌++◌, length, map, refl, sym, ap, subst, ◌∙◌, arith, length-append, append_assoc, if◌then◌else◌}
use Rattle.std.specs.List.{range_with_len}
use Rattle.lp_repr.specs.Shown.{pattern_text}
use Rattle.lp_core.specs.declared.expr.Op.TheVariants as op
use Rattle.lp_core.specs.declared.expr.Test.TheVariants as test
use Rattle.lp_core.specs.declared.value.Tag.{Tag}
use Rattle.lp_core.specs.Tree.{Tree, Apply}
use Rattle.lp_maker.specs.Constructs.{stuck, read}
use Rattle.lp_maker.specs.Patterns.{captures_of, form_of}
use Rattle.lp_bodies.specs.Tables.{Reading, payload, payload_found, one_or_tuple, captured, pattern_arm, pattern_arms}
use Rattle.lp_question_laws.proofs.Gotos.Arms.{Arm, Shows, one_shown}
use Rattle.lp_table.specs.TokenLines.{Known, capture_name, named_pieces, captured_value, pattern_of, pieces_from}
use Rattle.lp_question_laws.specs.Tokens.Told.{IsTold}
use Rattle.lp_question_laws.proofs.Tokens.Barred.{AreClosed}
use Rattle.lp_question_laws.proofs.Tokens.Captures.{capture_read, name_held, names_from, captures_read}
use Rattle.lp_question_laws.proofs.Tokens.FormOf.{AllWord, form_named, long_enough}
use Rattle.lp_question_laws.proofs.Tokens.Forms.{form_arms}
use Rattle.std.proofs.Common.{append-nil}

-- a terminal whose pattern is told and has so many captures
pub record IsMember (prefix : List ℕ) (captures : ℕ) (k : Known) : Type 0 where
  pub told : IsTold prefix k.2
  pub holes : length (k.2).holes ≡ captures

abbrev pub AreMembers : List ℕ → ℕ → List Known → Type 0
AreMembers prefix captures [] = Unit {0}
AreMembers prefix captures (k ∷ ks) = IsMember prefix captures k × AreMembers prefix captures ks

-- the payload of a number, and all of them
abbrev pub payload_code : ℕ → ℕ → Tree
payload_code slot j = Apply (op.Payload j) (read slot)

abbrev pub payload_codes : ℕ → ℕ → ℕ → List Tree
payload_codes slot k n = map (payload_code slot) (range_with_len k n)

abbrev pub value_code : ℕ → ℕ → Tree
value_code slot captures = one_or_tuple (payload_codes slot 0 captures)

module _ (prefix : List ℕ) (w : AllWord prefix) where
  payload_read : (slot j : ℕ) (pieces : List (List ℕ)) → j + 1 < length pieces → j < 2 ^ 64 → payload prefix slot (named_pieces prefix pieces) (capture_name prefix j) ≡ payload_code slot j
  payload_read slot j pieces lt small =
      ap (payload_found slot (named_pieces prefix pieces) (capture_name prefix j)) (capture_read prefix j small)
      ∙ ap (λ t. if t then payload_code slot j else stuck) (name_held prefix pieces j lt)

  payloads_read : (slot k n : ℕ) (pieces : List (List ℕ)) → k + n < length pieces → k + n < 2 ^ 64 → map (payload prefix slot (named_pieces prefix pieces)) (names_from prefix k n) ≡ payload_codes slot k n
  payloads_read slot k zero pieces lt small = refl
  payloads_read slot k (suc n) pieces lt small =
      ap (λ t. t ∷ map (payload prefix slot (named_pieces prefix pieces)) (names_from prefix (k + 1) n)) (payload_read slot k pieces (omega arith) (omega arith))
      ∙ ap (λ ts. payload_code slot k ∷ ts) (payloads_read slot (k + 1) n pieces (omega arith) (omega arith))

  -- what a pattern captures
  pub captured_read : (slot n : ℕ) (k : Known) → IsMember prefix (suc n) k → captured prefix slot (pattern_of prefix k) (captures_of (captured_value prefix (suc n))) ≡ value_code slot (suc n)
  captured_read slot n k h =
      let counted = h.told.counted in
      let few = h.told.few in
      ap (λ names. one_or_tuple (map (payload prefix slot (pattern_of prefix k)) names)) (captures_read prefix n w (omega (arith, h.holes)))
      ∙ ap one_or_tuple (payloads_read slot 0 (suc n) (k.2).pieces (omega (arith, h.holes)) (omega (arith, h.holes)))

  -- its form
  pub form_read : (n : ℕ) (k : Known) → IsMember prefix n k → form_of prefix (pattern_of prefix k) ≡ pattern_text k.2
  form_read n k h = (let counted = h.told.counted in let few = h.told.few in form_named prefix (k.2).pieces w (omega arith) h.told.apart)

  pub forms_read : (n : ℕ) (ks : List Known) → AreMembers prefix n ks → map (form_of prefix) (map (pattern_of prefix) ks) ≡ map (λ k. pattern_text k.2) ks
  forms_read n [] h = refl
  forms_read n (k ∷ ks) h = ap (λ t. t ∷ map (form_of prefix) (map (pattern_of prefix) ks)) (form_read n k h.0) ∙ ap (λ ts. pattern_text k.2 ∷ ts) (forms_read n ks h.1)

  -- patterns are closed
  some_pattern : (pieces : List (List ℕ)) → 1 < length pieces → 0 < length (named_pieces prefix pieces)
  some_pattern [] lt = absurd (omega arith)
  some_pattern (q ∷ ps) lt = omega (arith, long_enough prefix 0 ps, length-append q (pieces_from prefix 0 ps))

  pub all_closed : (n : ℕ) (ks : List Known) → AreMembers prefix (suc n) ks → AreClosed (map (pattern_of prefix) ks)
  all_closed n [] h = tt
  all_closed n (k ∷ ks) h = (let counted = h.0.told.counted in some_pattern (k.2).pieces (omega (arith, h.0.holes)), h.0.told.closed, all_closed n ks h.1)

-- ---- arms
-- patterns that capture the same
abbrev pub AreCaptured : List ℕ → ℕ → List (List ℕ) → Tree → List (List ℕ) → Type 0
AreCaptured prefix slot names code [] = Unit {0}
AreCaptured prefix slot names code (p ∷ ps) = (captured prefix slot p names ≡ code) × AreCaptured prefix slot names code ps

pub members_captured : (prefix : List ℕ) → AllWord prefix → (slot n : ℕ) (ks : List Known) → AreMembers prefix (suc n) ks → AreCaptured prefix slot (captures_of (captured_value prefix (suc n))) (value_code slot (suc n)) (map (pattern_of prefix) ks)
members_captured prefix w slot n [] h = tt
members_captured prefix w slot n (k ∷ ks) h = (captured_read prefix w slot n k h.0, members_captured prefix w slot n ks h.1)

-- their arms, and their forms among the texts
pub record PatternsRead (s r : Reading) (ms : List Arm) (forms : List (List ℕ)) : Type 0 where
  pub shows : Shows r.arms ms
  pub texts : r.made.texts ≡ s.made.texts ++ forms

pub patterns_read : (variant : Tag) (slot : ℕ) (names : List (List ℕ)) (code : Tree) (s : Reading) (ms : List Arm) (ps : List (List ℕ)) → AreCaptured s.made.prefix slot names code ps → Shows s.arms ms
    → PatternsRead s (pattern_arms variant slot names s ps) (ms ++ form_arms (λ _. Apply (op.Wrap variant) code) (length s.made.texts) 0 (map (form_of s.made.prefix) ps)) (map (form_of s.made.prefix) ps)
patterns_read variant slot names code s ms ps h shows = go 0 s ms ps h shows
  where
    go : (n : ℕ) (s : Reading) (ms : List Arm) (ps : List (List ℕ)) → AreCaptured s.made.prefix slot names code ps → Shows s.arms ms
        → PatternsRead s (pattern_arms variant slot names s ps) (ms ++ form_arms (λ _. Apply (op.Wrap variant) code) (length s.made.texts) n (map (form_of s.made.prefix) ps)) (map (form_of s.made.prefix) ps)
    go n s ms [] h shows = record { shows = subst (Shows s.arms) (sym (append-nil ms)) shows; texts = sym (append-nil s.made.texts) }
    go n s ms (p ∷ ps) h shows =
        let body : ℕ → Tree = λ _. Apply (op.Wrap variant) code in
        let t = pattern_arm variant slot names s p in
        let b = length s.made.texts in
        let arm : Arm = (test.Form b ∷ [], Apply (op.Wrap variant) code) in
        let form = form_of s.made.prefix p in
        let longer : length t.made.texts ≡ b + 1 = length-append s.made.texts (form ∷ []) in
        let here : Shows t.arms (ms ++ arm ∷ []) = subst (λ e. Shows t.arms (ms ++ (test.Form b ∷ [], Apply (op.Wrap variant) e) ∷ [])) h.0 (one_shown s.arms ms (test.Form b ∷ [], Apply (op.Wrap variant) (captured s.made.prefix slot p names)) shows) in
        let rest = go (n + 1) t (ms ++ arm ∷ []) ps h.1 here in
        record {
          shows = subst (Shows (pattern_arms variant slot names t ps).arms) (ap (λ (k : ℕ). (ms ++ arm ∷ []) ++ form_arms body k (n + 1) (map (form_of s.made.prefix) ps)) longer ∙ append_assoc ms (arm ∷ []) (form_arms body (b + 1) (n + 1) (map (form_of s.made.prefix) ps))) rest.shows;
          texts = rest.texts ∙ append_assoc s.made.texts (form ∷ []) (map (form_of s.made.prefix) ps);
        }
