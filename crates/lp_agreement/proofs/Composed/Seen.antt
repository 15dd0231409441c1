-- What is read of a form doesn't depend on how much its parts count, nor on entries where there is no table: going over parts, headers and their names.
use Rattle.std.proofs.Common.{◌≡◌, ℕ, zero, suc, Bool, true, false, if◌then◌else◌, List, [], ◌∷◌, map, Option, Some, None, option_map, slice_get, codes, refl, ap, ◌∙◌}
use Rattle.std.specs.Option.{option_or}
use Rattle.lp_form.specs.declared.part.Part.{Part}
use Rattle.lp_view.specs.PartLists.{Form, is_a, hole_of, parts_of, over, first_that, first_given}
use Rattle.lp_maker.specs.Making.{bind_row, parameters}
use Rattle.lp_maker.specs.Slots.{Names, no_names}
use Rattle.lp_bodies.specs.Arms.{Gathered, with_header}
use Rattle.lp_bodies.specs.Reductions.{element_type, slice_type, type_row, vec_type}
use Rattle.lp_agreement.proofs.Composed.Settled.{parts_seen, seen}

-- ---- going over parts
-- a step that reads as much of a form as can be seen
abbrev pub IsBlind : {A B : Type 0} → (A → Form → B) → Type 0
IsBlind step = (a : _) (f : Form) → step a (seen f) ≡ step a f

pub over_map : {S : Type 0} (step : S → Form → S) → IsBlind step → (s : S) (fs : List Form) → over step s (map seen fs) ≡ over step s fs
over_map step blind s [] = refl
over_map step blind s (f ∷ fs) = ap (λ (t : _). over step t (map seen fs)) (blind s f) ∙ over_map step blind (step s f) fs

pub over_seen : {S : Type 0} (step : S → Form → S) → IsBlind step → (s : S) (f : Form) → over step s (parts_of (seen f)) ≡ over step s (parts_of f)
over_seen step blind s f = ap (over step s) (parts_seen f) ∙ over_map step blind s (parts_of f)

get_map : (fs : List Form) (k : ℕ) → slice_get (map seen fs) k ≡ option_map seen (slice_get fs k)
get_map [] k = refl
get_map (f ∷ fs) zero = refl
get_map (f ∷ fs) (suc k) = get_map fs k

pub part_seen_at : (f : Form) (k : ℕ) → slice_get (parts_of (seen f)) k ≡ option_map seen (slice_get (parts_of f) k)
part_seen_at f k = ap (λ (fs : List Form). slice_get fs k) (parts_seen f) ∙ get_map (parts_of f) k

that_map : (test : Form → Bool) → ((f : Form) → test (seen f) ≡ test f) → (fs : List Form) → first_that test (map seen fs) ≡ option_map seen (first_that test fs)
that_map test blind [] = refl
that_map test blind (f ∷ fs) = ap (λ (b : Bool). if b then Some (seen f) else first_that test (map seen fs)) (blind f) ∙ by (test f) (that_map test blind fs)
  where
    by : (b : Bool) → first_that test (map seen fs) ≡ option_map seen (first_that test fs) → (if b then Some (seen f) else first_that test (map seen fs)) ≡ option_map seen (if b then Some f else first_that test fs)
    by true more = refl
    by false more = more

pub that_seen : (test : Form → Bool) → ((f : Form) → test (seen f) ≡ test f) → (f : Form) → first_that test (parts_of (seen f)) ≡ option_map seen (first_that test (parts_of f))
that_seen test blind f = ap (first_that test) (parts_seen f) ∙ that_map test blind (parts_of f)

given_map : (g : Form → Option Form) → ((f : Form) → g (seen f) ≡ option_map seen (g f)) → (fs : List Form) → first_given g (map seen fs) ≡ option_map seen (first_given g fs)
given_map g blind [] = refl
given_map g blind (f ∷ fs) =
    ap (λ (o : Option Form). option_or o (first_given g (map seen fs))) (blind f) ∙ ap (option_or (option_map seen (g f))) (given_map g blind fs) ∙ by (g f) (first_given g fs)
  where
    by : (a b : Option Form) → option_or (option_map seen a) (option_map seen b) ≡ option_map seen (option_or a b)
    by None b = refl
    by (Some x) b = refl

pub given_seen : (g : Form → Option Form) → ((f : Form) → g (seen f) ≡ option_map seen (g f)) → (f : Form) → first_given g (parts_of (seen f)) ≡ option_map seen (first_given g (parts_of f))
given_seen g blind f = ap (first_given g) (parts_seen f) ∙ given_map g blind (parts_of f)

pub is_seen : (p : Part) (f : Form) → is_a p (seen f) ≡ is_a p f
is_seen p [] = refl
is_seen p (e ∷ es) = refl

pub hole_seen : (k : ℕ) (f : Form) → hole_of k (seen f) ≡ hole_of k f
hole_seen k [] = refl
hole_seen k (e ∷ es) = refl

-- ---- headers
bind_blind : (prefix : List ℕ) → IsBlind (bind_row prefix)
bind_blind prefix names [] = refl
bind_blind prefix names (e ∷ es) = refl

pub parameters_seen : (prefix : List ℕ) (header : Form) → parameters prefix (seen header) ≡ parameters prefix header
parameters_seen prefix header = over_seen (bind_row prefix) (bind_blind prefix) no_names header

pub header_seen : (prefix : List ℕ) (header : Form) (a : Gathered) → with_header prefix (seen header) a ≡ with_header prefix header a
header_seen prefix header a = ap (λ (n : Names). record a { names = n; params = n.next }) (parameters_seen prefix header)

type_blind : (prefix before : List ℕ) (after : ℕ) → IsBlind (type_row prefix before after)
type_blind prefix before after kind [] = refl
type_blind prefix before after kind (e ∷ es) = refl

element_seen : (prefix before : List ℕ) (after : ℕ) (header : Form) → element_type prefix before after (seen header) ≡ element_type prefix before after header
element_seen prefix before after header = over_seen (type_row prefix before after) (type_blind prefix before after) None header

pub vec_seen : (prefix : List ℕ) (header : Form) → vec_type prefix (seen header) ≡ vec_type prefix header
vec_seen prefix header = element_seen prefix (codes "states: &mut alloc::vec::Vec<") 62 header

pub slice_seen : (prefix : List ℕ) (header : Form) → slice_type prefix (seen header) ≡ slice_type prefix header
slice_seen prefix header = element_seen prefix (codes "states: &[") 93 header
