-- No text with the same lines up to the one that a refusal names is read as a program, whatever prefix it shows.
use Rattle.std.proofs.Common.{◌≡◌, ℕ, ◌+◌, ◌-◌, ◌^◌, ◌<◌, ◌≤◌, zero, suc, true, inl, inr, List, [], ◌∷◌, ◌++◌, length, drop, refl, sym, ap, ◌∙◌, subst, arith, append_assoc, length-drop}
use Rattle.std.specs.Str.{IsUtf8}
use Rattle.std.proofs.lemmas.Bool.{cases_lt}
use Rattle.std.proofs.lemmas.Str.{IsUtf8-append}
use Rattle.lp_form.specs.declared.part.Part.TheVariants as part
use Rattle.lp_spelling.specs.Counting.{feeds, settled, behind_line}
use Rattle.lp_local.specs.Agreeing.{first_lines, Agree, lines_before}
use Rattle.lp_local.proofs.Agreeing.{feeds_feed, feeds-append, Shared, shared_front}
use Rattle.lp_local.proofs.Settling.{SettledShared, behind_byte, settled_shared}
use Rattle.lp_tree.specs.declared.tree.Entry.{Entry}
use Rattle.lp_tree.specs.declared.tree.Program.{Program}
use Rattle.lp_program.specs.Choosing.{IsChosen, IsReadUnder, PartChosen}
use Rattle.lp_program.specs.Prefixes.{renaming, renamed, ShowsPrefix}
use Rattle.lp_program.specs.Prefixes.ShowsPrefix.{shown, behind_use, behind_line as behind_other}
use Rattle.lp_program.specs.Reads.{TakesLine, is_prefix, Reads}
use Rattle.lp_program.specs.Reads.Task.{trees}
use Rattle.lp_program.specs.Trees.{content, Content, Forest, forest, forest_within, tree_count, whole}
use Rattle.lp_program.specs.Trees.Forest.{bare, tree}
use Rattle.lp_program.proofs.ChosenReads.{part_reads}
use Rattle.lp_program.proofs.Prefixes.{prefix_once}
use Rattle.lp_program.proofs.ProgramBegun.{no_prefix_utf8, no_prefix_fits}
use Rattle.lp_reading_laws.proofs.Choosing.Existing.{some_is_chosen}
use Rattle.lp_reading_laws.proofs.Choosing.Law.{chosen_is_it}
use Rattle.lp_reading_laws.proofs.Choosing.Showing.{shows_utf8}
use Rattle.lp_viable.specs.Dead.{RefusedIsDead, RefusedIsUntold}
use Rattle.lp_viable.proofs.LinesPassed.{agree_within, LinesPassed, lines_passed, line_ended, ended_utf8}
use Rattle.lp_viable.proofs.Moving.{past_ended}
use Rattle.lp_viable.proofs.Opening.{Opened, program_opened}
use Rattle.lp_viable.proofs.Rest.{least_rest, rest_utf8}
use Rattle.lp_viable.proofs.Restarted.{restarted}

-- the prefix that a text is read under
shows_fits : (prefix text : List ℕ) → ShowsPrefix prefix text → is_prefix prefix ≡ true
shows_fits prefix _ (shown text rest takes fits) = fits
shows_fits prefix _ (behind_use text used rest is v shows) = shows_fits prefix rest shows
shows_fits prefix _ (behind_other text line rest takes a b shows) = shows_fits prefix rest shows

under_utf8 : (text prefix : List ℕ) → IsUtf8 text → IsReadUnder text prefix → IsUtf8 prefix
under_utf8 text prefix u (inl shows) = shows_utf8 prefix text u shows
under_utf8 text prefix u (inr none) = subst (λ (x : List ℕ). IsUtf8 x) (sym none.0) no_prefix_utf8

under_fits : (text prefix : List ℕ) → IsReadUnder text prefix → is_prefix prefix ≡ true
under_fits text prefix (inl shows) = shows_fits prefix text shows
under_fits text prefix (inr none) = ap is_prefix none.0 ∙ no_prefix_fits

under_shown : (text prefix other : List ℕ) → IsReadUnder text prefix → ShowsPrefix other text → other ≡ prefix
under_shown text prefix other (inl shows) s = prefix_once other prefix text s shows
under_shown text prefix other (inr none) s = absurd (none.1 other s)

-- no more trees stand side by side than there are parts
within_few : (n : ℕ) (es : List Entry) → tree_count (forest_within n es) ≤ length es
unfolding forest_within
within_few zero es = omega arith
within_few (suc n) [] = omega arith
within_few (suc n) (e ∷ es) =
    let later = within_few n (drop e.below es) in
    let size = length-drop e.below es in
    omega (arith, later, size)

forest_few : (es : List Entry) → tree_count (forest es) ≤ length es
unfolding forest
forest_few es = within_few (length es) es

-- a program that is chosen is read
record WholeRead (prefix : List ℕ) (es : List Entry) (text rest : List ℕ) : Type 0 where
  c : Content
  below : Forest
  is : c.part ≡ part.Program
  few : tree_count below + 1 ≤ length es
  reads : Reads prefix (trees (tree c below bare)) text rest

whole_read : (prefix : List ℕ) (es : List Entry) (text rest : List ℕ) → PartChosen 16 prefix part.Program (whole es) text rest → WholeRead prefix es text rest
whole_read prefix [] text rest x =
    let r = part_reads 16 prefix part.Program bare text rest x in
    let never : [] ≡ part.Program ∷ [] = r.fits in
    absurd cc
whole_read prefix (e ∷ es) text rest x =
    let r = part_reads 16 prefix part.Program (tree (content e) (forest es) bare) text rest x in
    let first : e.part ∷ [] ≡ part.Program ∷ [] = r.fits in
    let is : e.part ≡ part.Program = cc in
    let few = forest_few es in
    record { c = content e; below = forest es; is = is; few = omega (arith, few); reads = r.reads }

-- where the same lines rename the crate, another text does too
record NamedThere (prefix front text : List ℕ) : Type 0 where
  there : List ℕ
  whole : text ≡ front ++ 10 ∷ there
  takes : TakesLine (renaming ++ renamed prefix) there (behind_line (settled there))

named_there : (prefix : List ℕ) (line : ℕ) (front behind rest text : List ℕ) → IsUtf8 behind → TakesLine (renaming ++ renamed prefix) behind rest → feeds front + 1 + lines_before behind (settled behind) < line →
    Agree line (front ++ 10 ∷ behind) text → NamedThere prefix front text
named_there prefix line front behind rest text u takes lt agree =
    let x : List ℕ = front ++ 10 ∷ [] in
    let one : feeds x ≡ feeds front + 1 = feeds-append front (10 ∷ []) in
    let s : Shared (line - feeds x) x behind text = shared_front line x behind text (omega (arith, one, lt)) (subst (λ (y : List ℕ). Agree line y text) (sym (append_assoc front (10 ∷ []) behind)) agree) in
    let t : SettledShared (line - feeds x) behind s.rest = settled_shared (line - feeds x) behind s.rest u takes.some (omega (arith, one, lt)) s.agree in
    record { there = s.rest; whole = s.b_is ∙ append_assoc front (10 ∷ []) s.rest; takes = record { some = t.some; line_is = t.line ∙ takes.line_is; rest_is = refl } }

-- under one prefix no program is chosen in a text with the same lines
abbrev NoneUnder : List ℕ → ℕ → List ℕ → Type 0
NoneUnder text line prefix = (other : List ℕ) → IsUtf8 other → Agree line other text → (program : Program) → program.prefix ≡ prefix → IsChosen other program → ⊥

-- the line that renames the crate is one of them: it is read under that prefix too
same_dead : (text : List ℕ) (line : ℕ) (prefix other : List ℕ) (program : Program) (below : Forest) → IsUtf8 text → IsReadUnder text prefix → NoneUnder text line prefix → IsUtf8 other → Agree line other text → IsChosen other program →
    (o : Opened program.prefix prefix below other) → feeds o.front + 1 + lines_before o.behind (settled o.behind) < line → ⊥
same_dead text line prefix other program below u under none v agree chosen o lt =
    let a : List ℕ = program.prefix in
    let w : IsUtf8 o.behind = behind_byte o.front 10 o.behind (omega arith) (subst (λ (x : List ℕ). IsUtf8 x) o.whole v) in
    let n : NamedThere a o.front text = named_there a line o.front o.behind o.rest text w o.names lt (subst (λ (x : List ℕ). Agree line x text) o.whole agree) in
    let there : IsUtf8 n.there = behind_byte o.front 10 n.there (omega arith) (subst (λ (x : List ℕ). IsUtf8 x) n.whole u) in
    let shows : ShowsPrefix a text = subst (λ (x : List ℕ). ShowsPrefix a x) (sym n.whole) (o.shows a n.there there (shown n.there (behind_line (settled n.there)) n.takes (shows_fits a other chosen.shows))) in
    none other v agree program (under_shown text prefix a under shows) chosen

-- it stands behind them: in front of it another program begins, under the other prefix
other_dead : (text : List ℕ) (line : ℕ) (prefix other : List ℕ) (program : Program) (below : Forest) → IsUtf8 text → IsReadUnder text prefix → NoneUnder text line prefix → IsUtf8 other → Agree line other text →
    tree_count below + 1 < 2 ^ 63 → (o : Opened program.prefix prefix below other) → (p : LinesPassed o.behind) → line ≤ feeds (o.front ++ 10 ∷ p.front) → ⊥
other_dead text line prefix other program below u under none v agree short o p le =
    let front : List ℕ = o.front ++ 10 ∷ p.front in
    let least : List ℕ = least_rest prefix o.first o.second in
    let q : List ℕ = p.front ++ least in
    let new : List ℕ = o.front ++ 10 ∷ q in
    let new_is : new ≡ front ++ least = sym (append_assoc o.front (10 ∷ p.front) least) in
    let other_is : other ≡ front ++ p.rest = o.whole ∙ ap (λ (x : List ℕ). o.front ++ 10 ∷ x) p.whole ∙ sym (append_assoc o.front (10 ∷ p.front) p.rest) in
    let w : IsUtf8 prefix = under_utf8 text prefix u under in
    let fits : is_prefix prefix ≡ true = under_fits text prefix under in
    let front_utf8 : IsUtf8 front = ended_utf8 front p.rest (line_ended o.front p.front p.ended) (subst (λ (x : List ℕ). IsUtf8 x) other_is v) in
    let new_utf8 : IsUtf8 new = subst (λ (x : List ℕ). IsUtf8 x) (sym new_is) (IsUtf8-append front least front_utf8 (rest_utf8 prefix w fits o.first o.second)) in
    let same : Agree line new text = ap (first_lines line) new_is ∙ agree_within line front least p.rest le ∙ ap (first_lines line) (sym other_is) ∙ agree in
    let fewer = o.fewer in
    let r = restarted prefix w fits o.first o.second new q (o.reads q) (past_ended p.front least p.ended p.none) o.held_first o.held_second (omega (arith, fewer, short)) in
    let t = some_is_chosen new r.0 new_utf8 r.2 in
    let is = chosen_is_it new r.0 t.0 new_utf8 r.2 t.1 in
    none new new_utf8 same t.0 (is.0 ∙ r.1) t.1

dead_under : (text : List ℕ) (line : ℕ) (prefix : List ℕ) → IsUtf8 text → IsReadUnder text prefix → NoneUnder text line prefix → (other : List ℕ) → IsUtf8 other → Agree line other text → (program : Program) → IsChosen other program → ⊥
dead_under text line prefix u under none other v agree program chosen =
    let k : WholeRead program.prefix program.entries.items other chosen.rest = whole_read program.prefix program.entries.items other chosen.rest chosen.reads.0 in
    let o : Opened program.prefix prefix k.below other = program_opened program.prefix prefix k.c k.below other chosen.rest v k.is k.reads in
    let p : LinesPassed o.behind = lines_passed o.behind in
    let few = k.few in
    let held = program.entries.ok in
    let small = program.entries.small in
    let size : feeds (o.front ++ 10 ∷ p.front) ≡ feeds o.front + feeds (10 ∷ p.front) = feeds-append o.front (10 ∷ p.front) in
    let one : feeds (10 ∷ p.front) ≡ 1 + feeds p.front = feeds_feed 10 p.front refl in
    let before = p.before in
    elim (cases_lt (feeds (o.front ++ 10 ∷ p.front)) line) [
      | inl lt ↦ same_dead text line prefix other program k.below u under none v agree chosen o (omega (arith, lt, size, one, before))
      | inr le ↦ other_dead text line prefix other program k.below u under none v agree (omega (arith, few, held, small)) o p (omega (arith, le))
    ]

pub refused_is_dead : RefusedIsDead
refused_is_dead text line u numbers refused other v agree program chosen =
    let r = refused numbers in
    dead_under text line r.0 u r.1 r.2 other v agree program chosen

pub refused_is_untold : RefusedIsUntold
refused_is_untold text line u numbers refused other v agree program reads =
    let t = some_is_chosen other program v reads in
    refused_is_dead text line u numbers refused other v agree t.0 t.1
