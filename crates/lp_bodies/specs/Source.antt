-- The token source: how its items become triples.
use Rattle.std.specs.Prelude.{ℕ, ◌||◌, Bool, [], ◌∷◌, length, Some, if◌then◌else◌}
use Rattle.lp_core.specs.declared.expr.Function.{Function}
use Rattle.lp_core.specs.declared.expr.Join.TheVariants as join
use Rattle.lp_core.specs.declared.expr.Leaf.TheVariants as leaf
use Rattle.lp_core.specs.declared.expr.Op.TheVariants as op
use Rattle.lp_core.specs.declared.value.Tag.TheVariants as tag
use Rattle.lp_core.specs.Tree.{Tree, Plain, Apply}
use Rattle.lp_form.specs.declared.part.Part.TheVariants as part
use Rattle.lp_view.specs.PartLists.{Form, is_a}
use Rattle.lp_maker.specs.Constructs.{take_slot, joined, call_function, on_result}
use Rattle.lp_maker.specs.Making.{Making, with_function}

-- whether items keep their locations
abbrev pub is_located : Form → Bool
is_located form = is_a part.ToTripleLocated form || is_a part.ToTripleLocatedWhere form

abbrev pub function : ℕ → ℕ → Tree → Function
function params slots body = record { params = params; slots = slots; body = body }

abbrev pub default_location : Tree
default_location = Plain leaf.DefaultLocation

-- a value with no locations of its own
abbrev pub unlocated : Tree → Tree
unlocated value = joined (join.Make tag.Tuple) (default_location ∷ value ∷ default_location ∷ [])

-- `Ok(self)`
abbrev pub triple_function : Function
triple_function = function 1 0 (Apply (op.Wrap tag.Success) (take_slot 0))

-- `Ok(((), self, ()))`, where self is the token of an item
abbrev pub token_function : Function
token_function = function 1 0 (Apply (op.Wrap tag.Success) (unlocated (Apply (op.Part 1) (take_slot 0))))

abbrev pub first_function : Bool → Function
first_function located = if located then triple_function else token_function

-- `|error| ParseError::User { error }`
abbrev pub error_function : Function
error_function = function 1 0 (Apply op.UserError (take_slot 0))

-- with locations the error is that of a closure, which has this number
abbrev pub fault_error : Bool → ℕ → Tree
fault_error located number = if located then call_function number (take_slot 1 ∷ []) else Apply op.UserError (take_slot 1)

abbrev pub fault_good : Bool → Tree
fault_good located = if located then take_slot 1 else unlocated (take_slot 1)

-- with locations `self.map_err(|error| ..)`, else a match
abbrev pub fault_function : Bool → ℕ → Function
fault_function located number =
    function 1 1 (on_result (take_slot 0) 1 (Apply (op.Wrap tag.Success) (fault_good located)) (Apply (op.Wrap tag.Failure) (fault_error located number)))

-- a triple by the first function, a fault by the second
abbrev pub item_function : ℕ → ℕ → Function
item_function first second =
    function 1 1 (on_result (take_slot 0) 1 (call_function first (take_slot 1 ∷ [])) (call_function second (Apply (op.Wrap tag.Failure) (take_slot 1) ∷ [])))

abbrev pub with_first : Bool → Making → Making
with_first located m = with_function (Some (first_function located)) m

abbrev pub with_error : Bool → Making → Making
with_error located m = if located then with_function (Some error_function) m else m

abbrev pub with_fault : Bool → Making → Making
with_fault located m = with_function (Some (fault_function located (length m.functions))) (with_error located m)

abbrev pub fault_number : Bool → Making → ℕ
fault_number located m = length (with_error located m).functions

-- what stands before the closure of items
abbrev pub with_both : Bool → Making → Making
with_both located m = with_fault located (with_first located m)

-- the closure's number
abbrev pub item_number : Bool → Making → ℕ
item_number located m = length (with_both located m).functions

-- what is made after the closure of items
abbrev pub with_item : Bool → Making → Making
with_item located m = with_function (Some (item_function (length m.functions) (fault_number located (with_first located m)))) (with_both located m)
