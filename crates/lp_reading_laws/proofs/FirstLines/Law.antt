-- The parts of a class are told apart.
use Rattle.std.proofs.Common.{◌≡◌, ℕ, ◌<◌, zero, suc, true, List, [], ◌∷◌, length, get_or, arith}
use Rattle.std.specs.List.{list_all}
use Rattle.std.proofs.lemmas.Bool.{and_parts}
use Rattle.lp_form.specs.Classes.{members_of}
use Rattle.lp_form.specs.declared.part.Part.{Part}
use Rattle.lp_form.specs.declared.part.Part.TheVariants as part
use Rattle.lp_program.specs.Begins.{member}
use Rattle.lp_reading_laws.specs.FirstLines.ApartTests.{is_apart_from, bound, parts_apart}
use Rattle.lp_reading_laws.specs.FirstLines.Laws.{AlternativesApart}
use Rattle.lp_reading_laws.proofs.FirstLines.Apart.{all_at, parts_sound}
use Rattle.lp_reading_laws.proofs.FirstLines.Tables.{classes_apart}

-- a part, and one behind it
pair_apart : (parts : List Part) (i j : ℕ) (d : Part) → parts_apart parts ≡ true → i < j → j < length parts → is_apart_from (get_or parts i d) (get_or parts j d) ≡ true
pair_apart [] i j d h lt within = absurd (omega arith)
pair_apart (p ∷ parts) i zero d h lt within = absurd (omega arith)
pair_apart (p ∷ parts) zero (suc j) d h lt within = all_at (is_apart_from p) parts j d (and_parts (list_all (is_apart_from p) parts) (parts_apart parts) h).0 (omega arith)
pair_apart (p ∷ parts) (suc i) (suc j) d h lt within = pair_apart parts i j d (and_parts (list_all (is_apart_from p) parts) (parts_apart parts) h).1 (omega arith) (omega arith)

pub alternatives_apart : AlternativesApart
alternatives_apart prefix c i j lines n m w body lt within opens begins =
    parts_sound prefix (member c i) (member c j) lines n m bound w (pair_apart (members_of c) i j part.Program (classes_apart c body) lt within) opens begins
