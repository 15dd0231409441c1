-- A line of a reduction that makes nothing but lines, and the symbol of a token by equal parts.
use Rattle.std.proofs.Common.{◌≡◌, ℕ, Bool, false, List, ap, ◌∙◌, if◌then◌else◌}
use Rattle.lp_core.specs.declared.value.Tag.{Tag}
use Rattle.lp_core.specs.Tree.{Tree}
use Rattle.lp_form.specs.declared.part.Part.TheVariants as part
use Rattle.lp_view.specs.PartLists.{Form, is_a, hole_of}
use Rattle.lp_maker.specs.Making.{Making, with_variant}
use Rattle.lp_maker.specs.Slots.{Names}
use Rattle.lp_bodies.specs.Arms.{no_arms}
use Rattle.lp_bodies.specs.Reductions.{Work, work_of, span_empty, with_last_end, push_line, quiet_line, reduce_line}
use Rattle.lp_bodies.specs.Tables.{Reading, reading_of, matched_by, pattern_arms}

pub quiet_by : (w : Work) (line : Form) → is_a part.SpanEmpty line ≡ false → is_a part.OutcomePush line ≡ false → reduce_line w line ≡ work_of (quiet_line w.made line w.lines) w.made
quiet_by w line e f =
    let quiet = work_of (quiet_line w.made line w.lines) w.made in
    let pushed = work_of (push_line w.made line w.lines) (with_variant (hole_of 0 line) w.made) in
    ap (λ (b : Bool). if b then work_of (span_empty w.made w.lines) (with_last_end w.made) else (if is_a part.OutcomePush line then pushed else quiet)) e
    ∙ ap (λ (b : Bool). if b then pushed else quiet) f

pub arms_by : (v w : Tag) (s t : ℕ) (ns os : List (List ℕ)) (m n : Making) (ps qs : List (List ℕ)) → v ≡ w → s ≡ t → ns ≡ os → m ≡ n → ps ≡ qs → pattern_arms v s ns (reading_of no_arms m) ps ≡ pattern_arms w t os (reading_of no_arms n) qs
arms_by v w s t ns os m n ps qs e f g h i =
    ap (λ (x : Tag). pattern_arms x s ns (reading_of no_arms m) ps) e
    ∙ ap (λ (x : ℕ). pattern_arms w x ns (reading_of no_arms m) ps) f
    ∙ ap (λ (x : List (List ℕ)). pattern_arms w t x (reading_of no_arms m) ps) g
    ∙ ap (λ (x : Making). pattern_arms w t os (reading_of no_arms x) ps) h
    ∙ ap (λ (x : List (List ℕ)). pattern_arms w t os (reading_of no_arms n) x) i

pub match_by : (token u : Tree) (s t : ℕ) (names others : Names) (r whole : Reading) → token ≡ u → s ≡ t → names ≡ others → r ≡ whole → matched_by token s names r ≡ matched_by u t others whole
match_by token u s t names others r whole e f g h =
    ap (λ (x : Tree). matched_by x s names r) e
    ∙ ap (λ (x : ℕ). matched_by u x names r) f
    ∙ ap (λ (x : Names). matched_by u t x r) g
    ∙ ap (λ (x : Reading). matched_by u t others x) h
