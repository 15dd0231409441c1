-- Worked examples: lines whose holes are not parted. They read otherwise, or as no holes at all; two lists of holes spell one line.
use Rattle.std.proofs.Common.{◌≡◌, ℕ, List, [], ◌∷◌, get_or, take, codes, Option, Some, None, refl}
use Rattle.lp_form.specs.Templates.{Piece, steps_of, holes_of}
use Rattle.lp_form.specs.declared.part.Part.{Part}
use Rattle.lp_form.specs.declared.part.Part.TheVariants as part
use Rattle.lp_form.specs.declared.template.Step.TheVariants as step
use Rattle.lp_spelling.specs.Lines.{line_of}
use Rattle.lp_spelling.specs.HoleEnds.{first_at, left_by, times, is_alone, kind_len, hole_len}
use Rattle.lp_spelling.specs.LineReading.{after, new_at, slot_at, line_at}

-- the line of a part's step
abbrev pieces : Part → ℕ → List Piece
pieces p i = (get_or (steps_of p) i (step.Empty, [])).1

-- what is read of it, where n holes are known before it
abbrev read : List ℕ → Part → ℕ → ℕ → List (List ℕ) → Option (List (List ℕ))
read prefix p i n holes = line_at prefix (holes_of p) (pieces p i) (take n holes) (line_of prefix holes (pieces p i))

-- a type that holds what follows it
state_holes : List (List ℕ)
state_holes = codes "()>, __Nonterminal<" ∷ codes "T" ∷ []

state_cut : read (codes "__") part.StateFn 4 0 state_holes ≡ Some (codes "(" ∷ codes ")>, __Nonterminal<T" ∷ [])
unfolding state_holes steps_of holes_of line_of line_at slot_at new_at after hole_len is_alone left_by times kind_len first_at
state_cut = refl

-- a text behind symbols that begins as a symbol
unfoldable pub transition_holes : List (List ℕ)
transition_holes = codes "0" ∷ [] ∷ codes "__a" ∷ codes "__b, c" ∷ []

unfoldable pub transition_others : List (List ℕ)
transition_others = codes "0" ∷ [] ∷ codes "__a, __b" ∷ codes "c" ∷ []

transition_same : line_of (codes "__") transition_holes (pieces part.Transition 2) ≡ line_of (codes "__") transition_others (pieces part.Transition 2)
unfolding transition_holes transition_others steps_of line_of
transition_same = refl

transition_read : read (codes "__") part.Transition 2 1 transition_holes ≡ Some transition_others
unfolding transition_holes transition_others steps_of holes_of line_of line_at slot_at new_at after hole_len is_alone left_by times kind_len first_at
transition_read = refl

-- a prefix with which `core` begins
core_holes : List (List ℕ)
core_holes = codes "0" ∷ [] ∷ codes "csym0" ∷ codes "core::marker::PhantomData::<()>" ∷ []

core_lost : read (codes "c") part.Transition 2 1 core_holes ≡ None
unfolding core_holes steps_of holes_of line_of line_at slot_at new_at after hole_len is_alone left_by times kind_len first_at
core_lost = refl

-- a location that holds what follows it
pop_holes : List (List ℕ)
pop_holes = codes "n" ∷ codes "a,__Symbol<>,a" ∷ codes "b" ∷ codes "t" ∷ []

pop_others : List (List ℕ)
pop_others = codes "n" ∷ codes "a" ∷ codes ">,a,__Symbol<b>,a,__Symbol<" ∷ codes "t" ∷ []

pop_same : line_of (codes "__") pop_holes (pieces part.Pop 3) ≡ line_of (codes "__") pop_others (pieces part.Pop 3)
unfolding pop_holes pop_others steps_of line_of
pop_same = refl

pop_short : List (List ℕ)
pop_short = codes "n" ∷ codes ",__Symbol<" ∷ codes "b" ∷ codes "t" ∷ []

pop_lost : read (codes "__") part.Pop 3 1 pop_short ≡ None
unfolding pop_short steps_of holes_of line_of line_at slot_at new_at after hole_len is_alone left_by times kind_len first_at
pop_lost = refl
