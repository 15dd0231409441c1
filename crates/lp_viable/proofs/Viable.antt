-- The lines in front of the one that a refusal names can be completed to a program.
use Rattle.std.proofs.Common.{◌≡◌, ℕ, zero, suc, ◌+◌, ◌-◌, ◌^◌, ◌<◌, true, false, inl, inr, List, [], ◌∷◌, ◌++◌, length, take, refl, sym, ◌∙◌, subst, arith, append_assoc}
use Rattle.std.specs.Str.{IsUtf8, IsCharBoundary}
use Rattle.std.proofs.lemmas.Bool.{cases_lt, both_ways}
use Rattle.std.proofs.lemmas.List.{take_all}
use Rattle.std.proofs.lemmas.Str.{IsUtf8-append, IsUtf8-take}
use Rattle.lp_form.specs.Templates.{steps_of}
use Rattle.lp_form.specs.declared.part.Part.TheVariants as part
use Rattle.lp_spelling.specs.Counting.{line_len, behind_line, settled}
use Rattle.lp_spelling.proofs.Counting.{settled_none, next_boundary}
use Rattle.lp_local.specs.Agreeing.{first_lines}
use Rattle.lp_local.proofs.Agreeing.{lines_by_line}
use Rattle.lp_program.specs.Reads.{is_prefix, IsProgram, Reads, trees, ReadsAs}
use Rattle.lp_program.specs.Starting.{IsBegun}
use Rattle.lp_program.specs.Starting.Goal.{one_part}
use Rattle.lp_program.specs.Trees.{Content, content, Forest, forest, whole}
use Rattle.lp_program.specs.Trees.Forest.{bare, tree}
use Rattle.lp_program.specs.declared.read.reader.ReadFault.TheVariants as fault
use Rattle.lp_program.proofs.Existing.{behind_utf8}
use Rattle.lp_tree.specs.declared.tree.Entry.{Entry}
use Rattle.lp_tree.specs.declared.tree.Program.{Program}
use Rattle.lp_reading_laws.specs.Printing.TemplateTests.{has_code}
use Rattle.lp_viable.specs.Held.{IsHeld}
use Rattle.lp_viable.specs.Viable.{ReadsAsTree, IsViable}
use Rattle.lp_viable.proofs.Entries.{Held, held}
use Rattle.lp_viable.proofs.Lean.{lean, lean_trees, lean_read}
use Rattle.lp_viable.proofs.Least.{Taken}
use Rattle.lp_viable.proofs.Sizes.{few_parts, few_lean, few_held}
use Rattle.lp_viable.proofs.Through.{starts_through}
use Rattle.lp_viable.proofs.Done.{part_done}
use Rattle.lp_viable.proofs.Moving.{nothing_utf8}
use Rattle.lp_viable.proofs.Trees.{PartDone}

-- the first lines of a text are a text
none_first : (t : List ℕ) → first_lines 0 t ≡ []
unfolding first_lines
none_first [] = refl
none_first (b ∷ t) = refl

line_utf8 : (t : List ℕ) → IsUtf8 t → IsUtf8 (take (line_len t + 1) t)
line_utf8 t u = elim (cases_lt (line_len t) (length t)) [
  | inl lt ↦
      let e : 0 + line_len t + 1 ≡ line_len t + 1 = omega arith in
      IsUtf8-take t (line_len t + 1) u (subst (λ i. IsCharBoundary t i) e (next_boundary t 0 u (omega (arith, lt))))
  | inr le ↦ subst (λ (x : List ℕ). IsUtf8 x) (sym (take_all (line_len t + 1) t (omega (arith, le)))) u
]

first_utf8 : (n : ℕ) (t : List ℕ) → IsUtf8 t → IsUtf8 (first_lines n t)
first_utf8 zero t u = subst (λ (x : List ℕ). IsUtf8 x) (sym (none_first t)) ([], (refl, refl))
first_utf8 (suc n) t u =
    subst (λ (x : List ℕ). IsUtf8 x) (sym (lines_by_line n t)) (IsUtf8-append (take (line_len t + 1) t) (first_lines n (behind_line t)) (line_utf8 t u) (first_utf8 n (behind_line t) (behind_utf8 t u)))

-- a program has no user code as its own step
plain_program : has_code (steps_of part.Program) ≡ false
unfolding steps_of
plain_program = refl

-- a program that a text begins, with something between them
program_viable : (prefix text behind : List ℕ) → IsUtf8 behind → is_prefix prefix ≡ true → PartDone prefix part.Program (text ++ behind) → IsViable text
program_viable prefix text behind u fits d =
    let t : Taken prefix (tree d.c d.below bare) ((text ++ behind) ++ (d.more ++ [])) [] = d.again [] (λ code. absurd (both_ways (has_code (steps_of part.Program)) plain_program code)) in
    record {
      more = behind ++ (d.more ++ []);
      utf8 = IsUtf8-append behind (d.more ++ []) u (IsUtf8-append d.more [] d.utf8 nothing_utf8);
      prefix = prefix;
      c = d.c;
      below = d.below;
      reads = record {
        rest = t.rest;
        prefix_fits = fits;
        first = d.part_is;
        reads = subst (λ (x : List ℕ). Reads prefix (trees (tree d.c d.below bare)) x t.rest) (append_assoc text behind (d.more ++ [])) t.reads;
        nothing_left = t.same ∙ settled_none;
      };
    }

-- the lines in front of the one that is named can be completed to a program, under some prefix
pub begun_is_viable : (text : List ℕ) (line : ℕ) → IsUtf8 text → IsBegun text (fault.NoForm line) → IsViable (first_lines (line - 1) text)
begun_is_viable text line u within =
    let b = within.1 in
    let front : List ℕ = first_lines (line - 1) text in
    let s = starts_through b.0 (one_part part.Program) front (first_utf8 (line - 1) text u) b.3 in
    program_viable b.0 front s.0 s.1 b.2 (part_done b.0 b.1 b.2 part.Program (front ++ s.0) s.2)

-- a tree that a program can hold is one
pub tree_program : (text prefix : List ℕ) (c : Content) (below : Forest) → IsHeld (tree c below bare) → ReadsAsTree text prefix c below → (program : Program) × ReadsAs text program
tree_program text prefix c below k r =
    let h : Held prefix c below = held prefix c below k in
    let to_whole : tree c below bare ≡ whole h.program.entries.items = sym h.same in
    let at_prefix : prefix ≡ h.program.prefix = sym h.prefix_is in (
      h.program,
      record {
        rest = r.rest;
        prefix_fits = subst (λ (x : List ℕ). is_prefix x ≡ true) at_prefix r.prefix_fits;
        first = subst IsProgram to_whole r.first;
        reads = subst (λ (x : List ℕ). Reads x (trees (whole h.program.entries.items)) text r.rest) at_prefix (subst (λ (x : Forest). Reads prefix (trees x) text r.rest) to_whole r.reads);
        nothing_left = r.nothing_left;
      },
    )

-- a text that isn't too long and reads as a tree of a program reads as a program
pub short_program : (text prefix : List ℕ) (c : Content) (below : Forest) → IsUtf8 text → length text + 2 < 2 ^ 63 → ReadsAsTree text prefix c below → (program : Program) × ReadsAs text program
unfolding lean_trees
short_program text prefix c below u short r =
    let parts = few_parts prefix c below text r.rest u short r.reads in
    let same = few_lean c below in
    tree_program text prefix (lean c) (lean_trees below) (few_held prefix c below text r.rest u short r.reads, omega (arith, parts, same)) (record {
      rest = r.rest;
      prefix_fits = r.prefix_fits;
      first = r.first;
      reads = lean_read prefix (tree c below bare) text r.rest r.reads;
      nothing_left = r.nothing_left;
    })

-- what completes a text that isn't too long with it completes it to a program
pub viable_program : (text : List ℕ) (v : IsViable text) → IsUtf8 text → length (text ++ v.more) + 2 < 2 ^ 63 → (program : Program) × ReadsAs (text ++ v.more) program
viable_program text v u short = short_program (text ++ v.more) v.prefix v.c v.below (IsUtf8-append text v.more u v.utf8) short v.reads

-- its first part is the program's
program_of : (text prefix rest : List ℕ) (es : List Entry) → is_prefix prefix ≡ true → IsProgram (whole es) → Reads prefix (trees (whole es)) text rest → settled rest ≡ [] → (c : Content) × (below : Forest) × ReadsAsTree text prefix c below
program_of text prefix rest [] fits first reads none = absurd first
program_of text prefix rest (e ∷ es) fits first reads none = (content e, forest es, record { rest = rest; prefix_fits = fits; first = first; reads = reads; nothing_left = none })

-- a text that reads as a program reads as its tree
pub program_tree : (text : List ℕ) (program : Program) → ReadsAs text program → (c : Content) × (below : Forest) × ReadsAsTree text program.prefix c below
program_tree text program r = program_of text program.prefix r.rest program.entries.items r.prefix_fits r.first r.reads r.nothing_left
