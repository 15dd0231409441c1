-- Parameters of a header of symbolic number hold their values.
use Rattle.std.proofs.Common.{◌≡◌, ℕ, ◌+◌, Bool, true, false, List, [], ◌∷◌, ◌++◌, length, map, Some, refl, sym, ap, ◌∙◌, arith, subst, append_assoc, length-append}
use Rattle.std.specs.Prelude.{slice_get, replicate, if◌then◌else◌}
use Rattle.std.proofs.lemmas.List.{length-replicate}
use Rattle.lp_core.specs.Datum.{Unset}
use Rattle.lp_core.specs.Val.{Val, Plain}
use Rattle.lp_form.specs.declared.part.Part.TheVariants as part
use Rattle.lp_view.specs.PartLists.{Form, is_a, hole_of, parts_of, over}
use Rattle.lp_maker.specs.Texts.{Binding, Nothing, Triple, Named, bound_of, plain}
use Rattle.lp_maker.specs.Slots.{Names, no_names, after_slots, bound}
use Rattle.lp_maker.specs.Making.{bind, bind_row, parameters}
use Rattle.lp_code_laws.specs.Slots.Shows.{Shows, HasRoom}
use Rattle.lp_code_laws.specs.Slots.Parameters.{row_binds, bound_by, values_of, BindOthers}
use Rattle.lp_code_laws.proofs.Slots.Slots.{get_behind}
use Rattle.lp_code_laws.proofs.Slots.Names.{shows_after, shows_other, shows_this}

-- a row binds what it binds
row_bound : (prefix : List ℕ) (names : Names) (row : Form) (is : Bool) → (if is then bind prefix (bound_of (hole_of 0 row)) names else names) ≡ bind prefix (if is then bound_of (hole_of 0 row) else Nothing) names
row_bound prefix names row true = refl
row_bound prefix names row false = refl

pub rows_bound : (prefix : List ℕ) (names : Names) (rows : List Form) → over (bind_row prefix) names rows ≡ bound_by prefix names (map row_binds rows)
rows_bound prefix names [] = refl
rows_bound prefix names (row ∷ rows) =
    rows_bound prefix (bind_row prefix names row) rows
    ∙ ap (λ n. bound_by prefix n (map row_binds rows)) (row_bound prefix names row (is_a part.ParameterRow row))

-- the names of a function are what its rows bind
pub header_bound : (prefix : List ℕ) (header : Form) → parameters prefix header ≡ bound_by prefix no_names (map row_binds (parts_of header))
header_bound prefix header = rows_bound prefix no_names (parts_of header)

-- some rows and then others
pub bound_append : (prefix : List ℕ) (names : Names) (a b : List Binding) → bound_by prefix names (a ++ b) ≡ bound_by prefix (bound_by prefix names a) b
bound_append prefix names [] b = refl
bound_append prefix names (x ∷ a) b = bound_append prefix (bind prefix x names) a b

pub values_append : (a b : List Binding) → values_of (a ++ b) ≡ values_of a + values_of b
values_append [] b = omega arith
values_append (Nothing ∷ a) b = values_append a b
values_append (Triple ∷ a) b = omega (arith, values_append a b)
values_append (Named name ∷ a) b = omega (arith, values_append a b)

module _ (prefix : List ℕ) where
  -- each row with a value takes a slot
  pub next_by : (bs : List Binding) (names : Names) → (bound_by prefix names bs).next ≡ names.next + values_of bs
  next_by [] names = omega arith
  next_by (Nothing ∷ bs) names = next_by bs names
  next_by (Triple ∷ bs) names = omega (arith, next_by bs (after_slots 1 names))
  next_by (Named name ∷ bs) names = omega (arith, next_by bs (bound (plain prefix name) names))

  module _ (env : List Val) where
    pub room_by : (bs : List Binding) (k : ℕ) (names : Names) → HasRoom (values_of bs + k) names env → HasRoom k (bound_by prefix names bs) env
    room_by bs k names h = record { room = omega (arith, h.room, next_by bs names) }

    -- rows that bind other names
    pub shows_by : (key : List ℕ) (v : Val) (bs : List Binding) (names : Names) → Shows names env key v → BindOthers prefix key bs → Shows (bound_by prefix names bs) env key v
    shows_by key v [] names h others = h
    shows_by key v (Nothing ∷ bs) names h others = shows_by key v bs names h others
    shows_by key v (Triple ∷ bs) names h others = shows_by key v bs (after_slots 1 names) (shows_after 1 h) others
    shows_by key v (Named name ∷ bs) names h others = shows_by key v bs (bound (plain prefix name) names) (shows_other (plain prefix name) others.0 h) others.1

    -- the row that binds the name: its value stands behind those of the rows before
    pub row_shows : (a : List Binding) (name : List ℕ) (b : List Binding) (names : Names) (v : Val) → slice_get env (names.next + values_of a) ≡ Some v → BindOthers prefix (plain prefix name) b → Shows (bound_by prefix names (a ++ Named name ∷ b)) env (plain prefix name) v
    row_shows a name b names v is others =
        let key = plain prefix name in
        let before = bound_by prefix names a in
        let here : slice_get env before.next ≡ Some v = ap (slice_get env) (next_by a names) ∙ is in
        subst (λ n. Shows n env key v) (sym (bound_append prefix names a (Named name ∷ b))) (shows_by key v b (bound key before) (shows_this key before env v here) others)

-- where a call begins there is room for the parameters and the other slots
pub begun_room : (vs : List Val) (slots : ℕ) → HasRoom (length vs + slots) no_names (vs ++ replicate slots (Plain Unset))
begun_room vs slots = record { room = omega (arith, length-append vs (replicate slots (Plain Unset)), length-replicate slots (Plain Unset)) }

-- a parameter of a header holds its value: that of as many values before it as there are rows with a value
pub parameter_shows : (prefix : List ℕ) (header : Form) (a : List Binding) (name : List ℕ) (b : List Binding) (before : List Val) (v : Val) (after : List Val) (slots : ℕ) → map row_binds (parts_of header) ≡ a ++ Named name ∷ b → length before ≡ values_of a → BindOthers prefix (plain prefix name) b → Shows (parameters prefix header) ((before ++ v ∷ after) ++ replicate slots (Plain Unset)) (plain prefix name) v
parameter_shows prefix header a name b before v after slots rows first others =
    let env = (before ++ v ∷ after) ++ replicate slots (Plain Unset) in
    let place : 0 + values_of a ≡ length before = omega (arith, first) in
    let is : slice_get env (0 + values_of a) ≡ Some v = ap (slice_get env) place ∙ ap (λ l. slice_get l (length before)) (append_assoc before (v ∷ after) (replicate slots (Plain Unset))) ∙ get_behind before v (after ++ replicate slots (Plain Unset)) in
    subst (λ n. Shows n env (plain prefix name) v) (sym (header_bound prefix header ∙ ap (bound_by prefix no_names) rows)) (row_shows prefix env a name b no_names v is others)

-- so many slots are taken by parameters
pub header_next : (prefix : List ℕ) (header : Form) → (parameters prefix header).next ≡ values_of (map row_binds (parts_of header))
header_next prefix header =
    let bs = map row_binds (parts_of header) in
    let none : 0 + values_of bs ≡ values_of bs = omega arith in
    ap (λ n. n.next) (header_bound prefix header) ∙ next_by prefix bs no_names ∙ none

-- and there is room for the other slots
pub header_room : (prefix : List ℕ) (header : Form) (vs : List Val) (slots : ℕ) → length vs ≡ values_of (map row_binds (parts_of header)) → HasRoom slots (parameters prefix header) (vs ++ replicate slots (Plain Unset))
header_room prefix header vs slots many = record { room = omega (arith, (begun_room vs slots).room, header_next prefix header, many) }
