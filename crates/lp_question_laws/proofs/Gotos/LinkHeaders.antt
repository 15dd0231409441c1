-- The names that a header's parameters bind, where the prefix is a variable.
use Rattle.std.proofs.Common.{◌≡◌, ℕ, ◌+◌, ◌<◌, Bool, true, false, ◌&&◌, ◌||◌, List, [], ◌∷◌, ◌++◌, length, map, drop, Some, None, refl, ap, sym, ◌∙◌, arith, append_assoc, append-nil, length-append, if◌then◌else◌}
use Rattle.std.proofs.Math.Seq.{drop-append_seam}
use Rattle.std.specs.Prelude.{codes, nat_eq, eqb}
use Rattle.std.specs.Option.{unwrap_or}
use Rattle.std.specs.Cmp.Lexicographic.{pointwise}
use Rattle.std.specs.Str.{bytes_eq}
use Rattle.std.proofs.lemmas.Bool.{ne_eqb, eqb-false, false_from_ne_true}
use Rattle.std.proofs.lemmas.Slice.Eq.{bytes_eq-Decides}
use Rattle.std.proofs.Math.Bool.{and-false}
use Rattle.lp_form.specs.declared.part.Part.TheVariants as part
use Rattle.lp_build.specs.declared.functions.FunctionName.{FunctionName}
use Rattle.lp_build.specs.Built as built
use Rattle.lp_build.specs.Built.{row, text_rows}
use Rattle.lp_build.specs.Functions.{name_part, name_holes, result_line, clause_lines}
use Rattle.lp_tree.specs.ProgramTree.{leaf}
use Rattle.lp_table.specs.Headers.{header_lines}
use Rattle.lp_view.specs.PartLists.{Form, hole_of, is_a, parts_of, over}
use Rattle.lp_maker.specs.Slots.{Names, no_names, bound}
use Rattle.lp_maker.specs.Texts.{Nothing, Triple, Named, cut_at, begins, bare, marked, with_mark, plain, is_idle, name_before, row_binding, bound_of}
use Rattle.lp_maker.specs.Making.{bind, bind_row, parameters}
use Rattle.lp_maker.proofs.Cuts.{has_front}
use Rattle.lp_question_laws.proofs.Gotos.Digits.{Lacks}
use Rattle.lp_question_laws.proofs.Gotos.Cuts.{cut_joined}
use Rattle.lp_question_laws.proofs.Gotos.Whole.{IsWhole, AreWhole, flat, parts_over, flat-append, whole-append}
use Rattle.lp_question_laws.proofs.Gotos.GotoCode.{over-append, lacks-append}

-- a name of two bytes or more, none of them `&`, `(` or `:`
pub record IsName (s : List ℕ) : Type 0 where
  pub no_and : Lacks 38 s
  pub no_open : Lacks 40 s
  pub no_colon : Lacks 58 s
  pub long : 1 < length s

pub unequal : (x y : List ℕ) → (x ≡ y → ⊥) → bytes_eq x y ≡ false
unequal x y h = false_from_ne_true _ (λ e. h ((bytes_eq-Decides x y).0 e))

-- `name: type` binds the name
pub named_bound : (name rest : List ℕ) → IsName name → bound_of (name ++ 58 ∷ rest) ≡ Named name
named_bound [] rest h = absurd (let l = h.long in omega arith)
named_bound (b ∷ []) rest h = absurd (let l = h.long in omega arith)
named_bound (b ∷ c ∷ cs) rest h =
    let row = (b ∷ c ∷ cs) ++ 58 ∷ rest in
    let self : bytes_eq row (codes "&self") ≡ false = unequal row (codes "&self") (λ e. h.no_and.0 cc) in
    let mut_self : bytes_eq row (codes "&mut self") ≡ false = unequal row (codes "&mut self") (λ e. h.no_and.0 cc) in
    let blank : begins (codes "_:") row ≡ false = ap (λ t. eqb 95 b && (t && true)) (ne_eqb 58 c (λ e. h.no_colon.1.0 (sym e))) ∙ and-false (eqb 95 b) in
    let idle : is_idle row ≡ false = ap (λ t. t || (bytes_eq row (codes "&mut self") || begins (codes "_:") row)) self ∙ ap (λ t. t || begins (codes "_:") row) mut_self ∙ blank in
    let opens : begins (codes "(") row ≡ false = ap (λ t. t && true) (ne_eqb 40 b (λ e. h.no_open.0 (sym e))) in
    ap (λ t. if t then Nothing else row_binding row) idle ∙ ap (λ t. if t then Triple else name_before (cut_at (codes ":") row)) opens ∙ ap name_before (cut_joined 58 [] (b ∷ c ∷ cs) rest h.no_colon)

-- a name with the prefix is known with `~` for it
pub prefixed_plain : (prefix word : List ℕ) → Lacks 38 (prefix ++ word) → plain prefix (prefix ++ word) ≡ codes "~" ++ word
prefixed_plain prefix word h =
    ap (marked prefix) (bare_stays (prefix ++ word) h)
    ∙ ap (λ t. with_mark (prefix ++ word) (if t then Some (drop (length prefix) (prefix ++ word)) else None)) (has_front prefix (prefix ++ word) word refl)
    ∙ ap (λ t. codes "~" ++ t) (drop-append_seam prefix word)
  where
    bare_stays : (s : List ℕ) → Lacks 38 s → bare s ≡ s
    bare_stays [] h = refl
    bare_stays (b ∷ bs) h = ap (λ t. unwrap_or (if t then Some (drop 1 (b ∷ bs)) else None) (b ∷ bs)) (ap (λ t. t && true) (ne_eqb 38 b (λ e. h.0 (sym e))))

-- ---- headers

abbrev pub bind_all : List ℕ → Names → List (List ℕ) → Names
bind_all prefix names [] = names
bind_all prefix names (text ∷ texts) = bind_all prefix (bind prefix (bound_of text) names) texts

abbrev pub type_forms : List (List ℕ) → List Form
type_forms texts = map (λ t. row part.TypeRow (t ∷ []) ∷ []) texts

abbrev pub parameter_forms : List (List ℕ) → List Form
parameter_forms texts = map (λ t. row part.ParameterRow (t ∷ []) ∷ []) texts

abbrev clause_forms : List (List ℕ) → List Form
clause_forms [] = []
clause_forms (c ∷ cs) = clause_lines (c ∷ cs) ∷ []

pub types_flat : (texts : List (List ℕ)) → (flat (type_forms texts) ≡ text_rows part.TypeRow texts) × AreWhole (type_forms texts)
types_flat [] = (refl, tt)
types_flat (t ∷ texts) = let r = types_flat texts in (ap (λ x. row part.TypeRow (t ∷ []) ∷ x) r.0, (refl, r.1))

pub parameters_flat : (texts : List (List ℕ)) → (flat (parameter_forms texts) ≡ text_rows part.ParameterRow texts) × AreWhole (parameter_forms texts)
parameters_flat [] = (refl, tt)
parameters_flat (t ∷ texts) = let r = parameters_flat texts in (ap (λ x. row part.ParameterRow (t ∷ []) ∷ x) r.0, (refl, r.1))

clauses_flat : (clauses : List (List ℕ)) → (flat (clause_forms clauses) ≡ clause_lines clauses) × AreWhole (clause_forms clauses)
clauses_flat [] = (refl, tt)
clauses_flat (c ∷ cs) = (append-nil (clause_lines (c ∷ cs)), (refl, tt))

-- a result line is one part, and no parameter
result_whole : (answer : List ℕ) → IsWhole (result_line answer) × (is_a part.ParameterRow (result_line answer) ≡ false)
result_whole answer = by (pointwise nat_eq answer (codes "()"))
  where
    by : (b : Bool) → IsWhole (if b then leaf part.ResultUnit [] else leaf part.ResultType (answer ∷ [])) × (is_a part.ParameterRow (if b then leaf part.ResultUnit [] else leaf part.ResultType (answer ∷ [])) ≡ false)
    by true = (refl, refl)
    by false = (refl, refl)

header_parts : (name : FunctionName) (generics params : List (List ℕ)) (answer : List ℕ) (clauses : List (List ℕ)) →
    parts_of (header_lines name generics params answer clauses) ≡ ((type_forms generics ++ parameter_forms params) ++ result_line answer ∷ []) ++ clause_forms clauses
unfolding header_lines
header_parts name generics params answer clauses =
    let t = type_forms generics in
    let p = parameter_forms params in
    let r = result_line answer ∷ [] in
    let c = clause_forms clauses in
    let lines = text_rows part.TypeRow generics ++ text_rows part.ParameterRow params in
    let flattened : (lines ++ result_line answer) ++ clause_lines clauses ≡ flat (((t ++ p) ++ r) ++ c) =
    sym (flat-append ((t ++ p) ++ r) c ∙ ap (λ x. x ++ flat c) (flat-append (t ++ p) r ∙ ap (λ x. x ++ flat r) (flat-append t p ∙ ap (λ x. x ++ flat p) (types_flat generics).0 ∙ ap (λ x. text_rows part.TypeRow generics ++ x) (parameters_flat params).0) ∙ ap (λ x. lines ++ x) (append-nil (result_line answer))) ∙ ap (λ x. (lines ++ result_line answer) ++ x) (clauses_flat clauses).0) in
    let whole : AreWhole (((t ++ p) ++ r) ++ c) = whole-append ((t ++ p) ++ r) c (whole-append (t ++ p) r (whole-append t p (types_flat generics).1 (parameters_flat params).1) ((result_whole answer).0, tt)) (clauses_flat clauses).1 in
    ap (λ below. parts_of (built.over (name_part name) (name_holes name) below)) flattened ∙ parts_over (name_part name) (name_holes name) (((t ++ p) ++ r) ++ c) whole

-- a pass that leaves all rows but parameters is one over the parameters
module _ {S : Type 0} (step : S → Form → S) (passes : (s : S) (f : Form) → is_a part.ParameterRow f ≡ false → step s f ≡ s) where
  types_passed : (s : S) (texts : List (List ℕ)) → over step s (type_forms texts) ≡ s
  types_passed s [] = refl
  types_passed s (t ∷ texts) = types_passed (step s (row part.TypeRow (t ∷ []) ∷ [])) texts ∙ passes s (row part.TypeRow (t ∷ []) ∷ []) refl

  clauses_passed : (s : S) (clauses : List (List ℕ)) → over step s (clause_forms clauses) ≡ s
  clauses_passed s [] = refl
  clauses_passed s (c ∷ cs) = passes s (clause_lines (c ∷ cs)) refl

  pub header_over : (s : S) (name : FunctionName) (generics params : List (List ℕ)) (answer : List ℕ) (clauses : List (List ℕ)) →
      over step s (parts_of (header_lines name generics params answer clauses)) ≡ over step s (parameter_forms params)
  header_over s name generics params answer clauses =
      let t = type_forms generics in
      let p = parameter_forms params in
      let r = result_line answer ∷ [] in
      let c = clause_forms clauses in
      ap (over step s) (header_parts name generics params answer clauses)
      ∙ over-append step s ((t ++ p) ++ r) c
      ∙ clauses_passed (over step s ((t ++ p) ++ r)) clauses
      ∙ over-append step s (t ++ p) r
      ∙ passes (over step s (t ++ p)) (result_line answer) (result_whole answer).1
      ∙ over-append step s t p
      ∙ ap (λ n. over step n p) (types_passed s generics)

parameters_bound : (prefix : List ℕ) (names : Names) (texts : List (List ℕ)) → over (bind_row prefix) names (parameter_forms texts) ≡ bind_all prefix names texts
parameters_bound prefix names [] = refl
parameters_bound prefix names (t ∷ texts) = parameters_bound prefix (bind prefix (bound_of t) names) texts

-- the parameters of a header are those of its texts
pub header_names : (prefix : List ℕ) (name : FunctionName) (generics params : List (List ℕ)) (answer : List ℕ) (clauses : List (List ℕ)) →
    parameters prefix (header_lines name generics params answer clauses) ≡ bind_all prefix no_names params
header_names prefix name generics params answer clauses =
    header_over (bind_row prefix) (λ names row e. ap (λ (b : Bool). if b then bind prefix (bound_of (hole_of 0 row)) names else names) e) no_names name generics params answer clauses
    ∙ parameters_bound prefix no_names params

-- ---- names with the prefix

abbrev pub has_no : ℕ → List ℕ → Bool
has_no c [] = true
has_no c (b ∷ bs) = if eqb b c then false else has_no c bs

pub lacks_by : (c : ℕ) (s : List ℕ) → has_no c s ≡ true → Lacks c s
lacks_by c [] h = tt
lacks_by c (b ∷ bs) h = by (lacks_by c bs) (eqb b c) refl h
  where
    by : (has_no c bs ≡ true → Lacks c bs) → (t : Bool) → eqb b c ≡ t → (if t then false else has_no c bs) ≡ true → (b ≡ c → ⊥) × Lacks c bs
    by rest true e h = absurd cc
    by rest false e h = (eqb-false b c e, rest h)

-- a prefix, or a word
pub record IsWordy (s : List ℕ) : Type 0 where
  pub no_and : Lacks 38 s
  pub no_open : Lacks 40 s
  pub no_colon : Lacks 58 s

pub wordy_by : (s : List ℕ) → has_no 38 s ≡ true → has_no 40 s ≡ true → has_no 58 s ≡ true → IsWordy s
wordy_by s a b c = record { no_and = lacks_by 38 s a; no_open = lacks_by 40 s b; no_colon = lacks_by 58 s c }

-- `~word: type` binds the word with its mark
pub prefixed_bound : (prefix word rest : List ℕ) (names : Names) → IsWordy prefix → IsWordy word → 1 < length word → bind prefix (bound_of (prefix ++ (word ++ 58 ∷ rest))) names ≡ bound (codes "~" ++ word) names
prefixed_bound prefix word rest names p w long =
    let name : IsName (prefix ++ word) = record {
      no_and = lacks-append 38 prefix word p.no_and w.no_and;
      no_open = lacks-append 40 prefix word p.no_open w.no_open;
      no_colon = lacks-append 58 prefix word p.no_colon w.no_colon;
      long = (let e : length (prefix ++ word) ≡ length prefix + length word = length-append prefix word in omega arith);
    } in
    ap (λ t. bind prefix (bound_of t) names) (sym (append_assoc prefix word (58 ∷ rest)))
    ∙ ap (λ b. bind prefix b names) (named_bound (prefix ++ word) rest name)
    ∙ ap (λ n. bound n names) (prefixed_plain prefix word name.no_and)
