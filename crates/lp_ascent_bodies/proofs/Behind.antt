-- What stands behind lines, by equal parts.
use Rattle.std.proofs.Common.{◌≡◌, ℕ, List, ap, ◌∙◌}
use Rattle.lp_core.specs.Tree.{Tree}
use Rattle.lp_view.specs.PartLists.{Form}
use Rattle.lp_maker.specs.Making.{Making}
use Rattle.lp_maker.specs.Constructs.{one_after_another}
use Rattle.lp_maker.specs.Slots.{Names, after_slots, cut_to}
use Rattle.lp_bodies.specs.Arms.{Gathered, with_body}
use Rattle.lp_bodies.specs.Lines.{Lines, lines_of}
use Rattle.lp_bodies.specs.Reductions.{Done}
use Rattle.lp_bodies.specs.Tables.{Reading}
use Rattle.lp_ascent_bodies.specs.AscentArms.{arming_of, block_arm}
use Rattle.lp_ascent_bodies.specs.AscentStarts.{lines_then, start_answer, start_end, start_after}

pub end_by : (m : Making) (form : Form) (names others : Names) (answer same : Tree) → names ≡ others → answer ≡ same → start_end m form names answer ≡ start_end m form others same
end_by m form names others answer same e f =
    ap (λ (x : Names). start_end m form x answer) e ∙ ap (λ (x : Tree). start_end m form others x) f

pub answer_by : (m : Making) (form : Form) (names : Names) (a b : ℕ) (x y : ℕ) → a ≡ x → b ≡ y → start_answer m form names a b ≡ start_answer m form names x y
answer_by m form names a b x y e f =
    ap (λ (n : ℕ). start_answer m form names n b) e ∙ ap (λ (n : ℕ). start_answer m form names x n) f

-- the lines of `parse`, and what follows them
pub start_by : (m : Making) (form : Form) (names next : Names) (parts : List Tree) (a b x y : ℕ) (answer : Tree) (d : Done) (whole : Lines) → lines_of names parts ≡ whole → a ≡ x → b ≡ y → answer ≡ start_answer m form names a b → next ≡ after_slots 1 names → d ≡ start_end m form next answer → lines_then (lines_of names parts) d ≡ start_after m form x y whole
start_by m form names next parts a b x y answer d whole lines first second call after rest =
    ap (λ (z : Done). lines_then (lines_of names parts) z) (rest ∙ end_by m form next (after_slots 1 names) answer (start_answer m form names x y) after (call ∙ answer_by m form names a b x y first second))
    ∙ ap (λ (z : Lines). start_after m form x y z) lines

-- a block of lines as a body
pub block_by : (mark k : ℕ) (l whole : Lines) (s t : Reading) (names : Names) (arms : Gathered) (block : Tree) → mark ≡ k → l ≡ whole → s ≡ t → names ≡ cut_to mark l.names → block ≡ one_after_another l.parts → arms ≡ with_body block s.arms → arming_of names arms s.made ≡ block_arm k whole t
block_by mark k l whole s t names arms block e f g h i j =
    ap (λ (x : Names). arming_of x arms s.made) h
    ∙ ap (λ (x : Gathered). arming_of (cut_to mark l.names) x s.made) (j ∙ ap (λ (x : Tree). with_body x s.arms) i)
    ∙ ap (λ (n : ℕ). block_arm n l s) e
    ∙ ap (λ (x : Lines). block_arm k x s) f
    ∙ ap (λ (x : Reading). block_arm k whole x) g
