-- A reader that has looked at its place, and what it sees there.
use Rattle.std.proofs.Common.{◌≡◌, ℕ, zero, suc, ◌<◌, ◌≤◌, Bool, true, false, ◌||◌, List, [], ◌∷◌, length, get_or, refl, sym, ap, ◌∙◌, arith, subst}
use Rattle.std.specs.List.{list_any}
use Rattle.lp_form.specs.Classes.{members_of}
use Rattle.lp_form.specs.contracts.part.PartPartialEq.TheImpl as equality
use Rattle.lp_form.specs.contracts.part.PartEq.TheImpl.Laws.{laws-law}
use Rattle.lp_form.specs.declared.class.Class.{Class}
use Rattle.lp_form.specs.declared.class.Class.TheVariants as class
use Rattle.lp_form.specs.declared.part.Part.{Part}
use Rattle.lp_form.specs.declared.part.Part.TheVariants as part
use Rattle.lp_program.specs.declared.read.reader.Reader.{Reader}
use Rattle.lp_program.specs.Adding.{SamePlace}
use Rattle.lp_program.specs.Printed.{is_member}

-- a part that stands among others is one of them
any_at : (test : Part → Bool) (ps : List Part) (i : ℕ) (p : Part) → i < length ps → test (get_or ps i p) ≡ true → list_any test ps ≡ true
any_at test [] i p lt h = absurd (omega arith)
any_at test (q ∷ ps) zero p lt h = ap (λ b. b || list_any test ps) h
any_at test (q ∷ ps) (suc i) p lt h = ap (λ b. test q || b) (any_at test ps i p (omega arith) h) ∙ either (test q)
  where
    either : (b : Bool) → (b || true) ≡ true
    either true = refl
    either false = refl

-- a part that stands in a class belongs to it
pub member_at : (class : Class) (ps : List Part) (i : ℕ) (p : Part) → ps ≡ members_of class → i < length ps → p ≡ get_or ps i p → is_member class p ≡ true
member_at class ps i p e lt at =
    let same : (equality.ghosts).eq (get_or ps i p) p ≡ true = subst (λ q. (equality.ghosts).eq q p ≡ true) at (laws-law.refl p) in
    ap (list_any (λ m. (equality.ghosts).eq m p)) (sym e) ∙ any_at (λ m. (equality.ghosts).eq m p) ps i p lt same

-- looking moves no reader
pub same_place : (old new : Reader) → new ≡ record old { looked = new.looked } → old.looked ≤ new.looked → SamePlace old new
same_place old new e le = record { prefix_is = ap (λ r. r.prefix.now) e; cursor_is = ap (λ r. r.cursor) e; looked = le; entries_are = ap (λ r. r.entries.items) e }

-- the bodies of actions
pub user_body : is_member class.ActionBody part.UserBody ≡ true
unfolding members_of
user_body = refl

pub inline_body : is_member class.ActionBody part.InlineBody ≡ true
unfolding members_of
inline_body = refl
