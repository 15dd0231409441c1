use Rattle.std.proofs.Common.{◌≡◌, ℕ, List, ◌∷◌, ◌++◌, [], ap, refl, sym, rules, subst}
use Rattle.lp_spelling.specs.Cursors.{left}
use Rattle.lp_program.specs.declared.read.growing.Growing.{Growing}
use Rattle.lp_program.specs.CodeReading.{IsCode}
use Rattle.lp_program.specs.Telling.{told}
use Rattle.lp_program.proofs.Growing.{grows_text, first_hole}
use Rattle.lp_program.proofs.Telling.{text_not, text_told}
use Rattle.lp_program.proofs.read.growing.code_step.Goals as goal

pub returns-in_default : goal.returns-in_default
returns-in_default c = record {
  same = tt;
  grows = tt;
  takes = tt;
  tells = text_not c.args.growing.now.part (IsCode (left c.args.cursor)) (told c.args.growing.now) c.in_default.ensures.exact;
}

pub returns : goal.returns
returns c =
    let taken = c.in-Some.taken in
    let text = taken.text.now in
    let old = c.args.growing.now in
    let after : Growing = record old { holes = c.push.new.self } in
    let pushed : after.holes.items ≡ old.holes.items ++ text ∷ [] = search rules in
    record {
      same = c.in-Some.ensures.takes.0;
      grows = λ prefix. grows_text prefix old after text refl (λ t. t) (λ t. refl) c.requires.kinds pushed;
      takes = λ content m. subst (λ x. IsCode (left c.args.cursor) x (left taken.next)) (sym (first_hole old.holes.items after content text c.requires.first pushed m)) c.in-Some.ensures.takes.1;
      tells = text_told old.part (IsCode (left c.args.cursor)) (told old) (told after) text (left taken.next) c.requires.kinds c.requires.first
          (ap (λ (h : List (List ℕ)). record (told old) { holes = h }) pushed) c.in-Some.ensures.exact.0 c.in-Some.ensures.exact.1;
    }
