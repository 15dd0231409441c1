-- What is replaced, one rule after the other.
use Rattle.std.proofs.Common.{◌≡◌, ℕ, ◌+◌, ◌<◌, ◌≤◌, cond, List, [], ◌∷◌, ◌++◌, length, drop, sym, ap, ◌∙◌}
use Rattle.std.proofs.Math.ListN.{get_or}
use Rattle.std.proofs.lemmas.List.{drop_all}
use Rattle.lp_lower.specs.ActionNumbers.{actions_in, first_action, lookahead_action, lookbehind_action}
use Rattle.lp_lower.specs.Expansion.{lookaround, sources_of, expanded_all, inlines_after, all_sources}
use Rattle.lp_lower.specs.Framing.{frame_of}
use Rattle.lp_lower.specs.declared.combine.Expanded.{Expanded}
use Rattle.lp_lower.specs.declared.expand.Sources.{Sources}
use Rattle.lp_lower.specs.declared.frame.Frame.{Frame}
use Rattle.lp_syntax.specs.declared.plain.PlainGrammar.{PlainGrammar}
use Rattle.lp_syntax.specs.declared.plain.PlainRule.{PlainRule}
use Rattle.lp_lower.proofs.Putting.{next_drop}

abbrev pub sources : List Expanded → List Expanded → List (List Expanded) → Sources
sources ahead behind inlines = record { lookahead = ahead; lookbehind = behind; inlines = inlines }

-- the sources so far are those of the inline rules so far, and those to come complete them
pub record IsSourced (g : PlainGrammar) (s : Sources) (first i : ℕ) : Type 0 where
  pub same : s ≡ sources_of g s.inlines
  pub completed : inlines_after g s.inlines first (drop i g.rules) ≡ inlines_after g [] (first_action g) g.rules

-- before the first rule
pub sourced_none : (g : PlainGrammar) (f : Frame) (ahead behind : List Expanded) (inlines : List (List Expanded)) → f ≡ frame_of g → ahead ≡ lookaround f.lookahead ∷ [] → behind ≡ lookaround f.lookbehind ∷ [] → inlines ≡ [] → IsSourced g (sources ahead behind inlines) f.first 0
sourced_none g f ahead behind inlines framed ahead_is behind_is none =
    let one : ahead ≡ lookaround (lookahead_action g) ∷ [] = ahead_is ∙ ap (λ (x : Frame). lookaround x.lookahead ∷ []) framed in
    let two : behind ≡ lookaround (lookbehind_action g) ∷ [] = behind_is ∙ ap (λ (x : Frame). lookaround x.lookbehind ∷ []) framed in
    record {
      same = ap (λ x. sources x behind inlines) one ∙ ap (λ x. sources (lookaround (lookahead_action g) ∷ []) x inlines) two;
      completed = ap (λ x. inlines_after g x f.first g.rules) none ∙ ap (λ (x : Frame). inlines_after g [] x.first g.rules) framed;
    }

-- one more rule
pub sourced_more : (g : PlainGrammar) (s : Sources) (first i : ℕ) (r : PlainRule) → i < length g.rules → get_or g.rules i r ≡ r → (next : ℕ) (e : List Expanded) (new : List (List Expanded)) → e ≡ cond r.inline (expanded_all g s first r.alternatives) [] → new ≡ s.inlines ++ e ∷ [] → next ≡ first + actions_in g r.alternatives → IsSourced g s first i → IsSourced g (sources s.lookahead s.lookbehind new) next (i + 1)
sourced_more g s first i r less at next e new e_is new_is next_is was =
    let rest = drop (i + 1) g.rules in
    let made = cond r.inline (expanded_all g (sources_of g s.inlines) first r.alternatives) [] in
    let e_made : e ≡ made = e_is ∙ ap (λ (x : Sources). cond r.inline (expanded_all g x first r.alternatives) []) was.same in
    record {
      same = ap (λ (x : Sources). sources x.lookahead x.lookbehind new) was.same;
      completed =
          ap (λ l. inlines_after g l next rest) (new_is ∙ ap (λ x. s.inlines ++ x ∷ []) e_made)
          ∙ (ap (λ n. inlines_after g (s.inlines ++ made ∷ []) n rest) next_is
          ∙ (ap (inlines_after g s.inlines first) (sym (next_drop g.rules i r less at)) ∙ was.completed));
    }

-- after the last one
pub sourced_all : (g : PlainGrammar) (s : Sources) (first i : ℕ) → length g.rules ≤ i → IsSourced g s first i → s ≡ all_sources g
sourced_all g s first i h was = was.same ∙ ap (sources_of g) (ap (inlines_after g s.inlines first) (sym (drop_all i g.rules h)) ∙ was.completed)
