-- A walk over nonterminals marks those that a closure opens.
use Rattle.std.proofs.Common.{◌≡◌, ◌↔◌, ◌⊎◌, inl, inr, ℕ, ◌+◌, ◌<◌, ◌≤◌, take, Option, Bool, true, false, List, [], ◌∷◌, ◌++◌, length, set, get_or, refl, arith, sym, ap, ◌∙◌, subst, Some, slice_get, length-set, get_or-set_same, get_or-set_other, ⊎_elim}
use Rattle.std.specs.List.{Contains}
use Rattle.std.proofs.lemmas.Bool.{cases_eq, cases_lt}
use Rattle.std.proofs.lemmas.List.Elements.{Contains-append_left, Contains-push, Contains-push_cases}
use Rattle.std.proofs.lemmas.Option.{slice_get_read, slice_get_within, get_or_from_slice_get}
use Rattle.lp_repr.specs.Closure.{next_symbol, HasLeft}
use Rattle.lp_repr.specs.declared.lr1.Item.{Item}
use Rattle.lp_repr.specs.declared.numbering.Rule.{Rule}
use Rattle.lp_repr.specs.declared.numbering.SymbolNumber.{SymbolNumber}
use Rattle.lp_repr.specs.declared.numbering.SymbolNumber.TheVariants.{Nonterminal}
use Rattle.lp_tables.specs.Numbers.{IsIndex}
use Rattle.lp_tables.specs.Opening.{Leads, Opens, first, onward, FollowsKernel, AreOpened}
use Rattle.lp_tables.specs.Walk.{is_opened, Waits, IsFresh, AllWait, Marks}
use Rattle.lp_tables.specs.declared.opened.Opened.{Opened}
use Rattle.lp_tables.proofs.Items.{item_old, item_new, item_more}

none_of : {P : Type 0} (k : ℕ) → Contains [] k → P
none_of k h = absurd (let less = h.1 in omega arith)

-- a step that marks nothing
pub marks_none : (s : Opened) (These : ℕ → Type 0) → ((k : ℕ) → ¬ These k) → Marks s s These
marks_none s These none =
    record { size = refl; kept = λ k h. h; marked = λ k c _. absurd (none k c); only = λ k h. inl h; waiting = λ k h. h; waits = λ k h. inl h }

-- two steps, one after the other
pub marks_then : (a b c : Opened) (P Q : ℕ → Type 0) → Marks a b P → Marks b c Q → Marks a c (λ k. P k ⊎ Q k)
marks_then a b c P Q one two =
    record {
      size = two.size ∙ one.size;
      kept = λ k h. two.kept k (one.kept k h);
      marked = λ k h less. ⊎_elim (λ p. two.kept k (one.marked k p less)) (λ q. two.marked k q (let e = one.size in omega arith)) h;
      only = λ k h. ⊎_elim (λ old. ⊎_elim (λ older. inl older) (λ new. inr (inl new.0, two.waiting k new.1)) (one.only k old)) (λ new. inr (inr new.0, new.1)) (two.only k h);
      waiting = λ k h. two.waiting k (one.waiting k h);
      waits = λ k h. ⊎_elim (λ old. ⊎_elim (λ older. inl older) (λ new. inr (inl new.0, two.kept k new.1)) (one.waits k old)) (λ new. inr (inr new.0, new.1)) (two.waits k h);
    }

-- the same of what is the same
pub marks_like : (a b : Opened) (P Q : ℕ → Type 0) → ((k : ℕ) → P k → Q k) → ((k : ℕ) → Q k → P k) → Marks a b P → Marks a b Q
marks_like a b P Q to back m =
    record {
      size = m.size;
      kept = m.kept;
      marked = λ k q less. m.marked k (back k q) less;
      only = λ k h. ⊎_elim (λ old. inl old) (λ new. inr (to k new.0, new.1)) (m.only k h);
      waiting = m.waiting;
      waits = λ k h. ⊎_elim (λ old. inl old) (λ new. inr (to k new.0, new.1)) (m.waits k h);
    }

-- a nonterminal that is marked already, or that there isn't
pub marks_again : (s : Opened) (a : ℕ) → (a < length s.opened.items → is_opened s a ≡ true) → Marks s s (λ k. k ≡ a)
marks_again s a h =
    record {
      size = refl;
      kept = λ k m. m;
      marked = λ k e less. subst (λ n. is_opened s n ≡ true) (sym e) (h (omega arith));
      only = λ k m. inl m;
      waiting = λ k m. m;
      waits = λ k m. inl m;
    }

-- a nonterminal that is marked and then waits
pub marks_one : (s t : Opened) (a : ℕ) → a < length s.opened.items → t.opened.items ≡ set s.opened.items a true → t.work.items ≡ s.work.items ++ a ∷ [] → Marks s t (λ k. k ≡ a)
marks_one s t a within e f =
    let here : is_opened t a ≡ true = ap (λ bs. get_or bs a false) e ∙ get_or-set_same s.opened.items a true false within in
    let last : Waits t a = subst (λ ws. Contains ws a) (sym f) (Contains-push s.work.items a) in
    let there = λ (k : ℕ) (same : k ≡ a). (let p : is_opened t k ≡ true = subst (λ n. is_opened t n ≡ true) (sym same) here in p) in
    record {
      size = ap length e ∙ length-set s.opened.items a true;
      kept = λ k m. ⊎_elim (λ same. there k same) (λ other. (ap (λ bs. get_or bs k false) e ∙ get_or-set_other s.opened.items a k true false other) ∙ m) (cases_eq k a);
      marked = λ k same _. there k same;
      only = λ k m. ⊎_elim (λ same. inr (same, subst (Waits t) (sym same) last)) (λ other. inl (sym (ap (λ bs. get_or bs k false) e ∙ get_or-set_other s.opened.items a k true false other) ∙ m)) (cases_eq k a);
      waiting = λ k m. subst (λ ws. Contains ws k) (sym f) (Contains-append_left s.work.items (a ∷ []) k m);
      waits = λ k m. ⊎_elim (λ old. inl old) (λ new. inr (sym new, there k (sym new))) (Contains-push_cases s.work.items a k (subst (λ ws. Contains ws k) f m));
    }

-- of a fresh walk all that are marked wait, and so they do after a step
pub fresh_waits : (n : ℕ) (s : Opened) → IsFresh n s → AllWait s
fresh_waits n s h =
    record {
      waits = λ k m. (let no : true ≡ false = sym m ∙ h.none k in cc);
      marked = λ k w. none_of k (subst (λ ws. Contains ws k) h.empty w);
    }

pub all_wait_after : (s t : Opened) (These : ℕ → Type 0) → AllWait s → Marks s t These → AllWait t
all_wait_after s t These h m =
    record {
      waits = λ k p. ⊎_elim (λ old. m.waiting k (h.waits k old)) (λ new. new.1) (m.only k p);
      marked = λ k w. ⊎_elim (λ old. m.kept k (h.marked k old)) (λ new. new.1) (m.waits k w);
    }

-- what holds in a walk from those that are marked at first: what is marked is opened, and of what is marked and no longer waits, that to which it leads is marked
pub record Walks (rules : List Rule) (First : ℕ → Type 0) (s : Opened) : Type 0 where
  pub sound : (k : ℕ) → is_opened s k ≡ true → Opens rules First k
  pub marked : (k : ℕ) → Waits s k → is_opened s k ≡ true
  pub begun : (k : ℕ) → First k → is_opened s k ≡ true
  pub closed : (k : ℕ) → is_opened s k ≡ true → Waits s k ⊎ ((m : ℕ) → Leads rules k m → m < length s.opened.items → is_opened s m ≡ true)

pub walk_begins : (rules : List Rule) (s : Opened) → AllWait s → Walks rules (λ k. is_opened s k ≡ true) s
walk_begins rules s h = record { sound = λ k m. first k m; marked = h.marked; begun = λ k m. m; closed = λ k m. inl (h.waits k m) }

-- a turn: a nonterminal no longer waits, and that to which it leads is marked
pub walk_goes_on : (rules : List Rule) (First : ℕ → Type 0) (r : ℕ) (s t u : Opened) → Walks rules First s → t.opened.items ≡ s.opened.items → s.work.items ≡ t.work.items ++ r ∷ [] → Marks t u (Leads rules r) → Walks rules First u
walk_goes_on rules First r s t u h e f m =
    let same = λ (k : ℕ). (let p : is_opened t k ≡ is_opened s k = ap (λ bs. get_or bs k false) e in p) in
    let opens : Opens rules First r = h.sound r (h.marked r (subst (λ ws. Contains ws r) (sym f) (Contains-push t.work.items r))) in
    let waited = λ (k : ℕ) (w : Waits t k). (let v : Waits s k = subst (λ ws. Contains ws k) (sym f) (Contains-append_left t.work.items (r ∷ []) k w) in v) in
    let size = m.size in
    record {
      sound = λ k p. ⊎_elim (λ old. h.sound k (sym (same k) ∙ old)) (λ new. onward r k opens new.0) (m.only k p);
      marked = λ k w. ⊎_elim (λ old. m.kept k (same k ∙ h.marked k (waited k old))) (λ new. new.1) (m.waits k w);
      begun = λ k p. m.kept k (same k ∙ h.begun k p);
      closed = λ k p.
          ⊎_elim
          (λ old.
          ⊎_elim
          (λ was.
          ⊎_elim (λ still. inl (m.waiting k still)) (λ now. inr (λ b q less. m.marked b (subst (λ n. Leads rules n b) (sym now) q) (omega arith)))
          (Contains-push_cases t.work.items r k (subst (λ ws. Contains ws k) f was)))
          (λ done. inr (λ b q less. m.kept b (same b ∙ done b q (let count : length t.opened.items ≡ length s.opened.items = ap length e in omega arith)))) (h.closed k (sym (same k) ∙ old)))
          (λ new. inl new.1) (m.only k p);
    }

-- a nonterminal with productions is one of the index
pub left_within : (rules : List Rule) (firsts : List ℕ) (q n : ℕ) → IsIndex rules firsts → HasLeft rules q n → n < length firsts
left_within rules firsts q n h l = let b = (h q n).0 l in slice_get_within firsts n b.0 b.2

-- the end: all that is opened is marked
walk_marks : (rules : List Rule) (firsts : List ℕ) (First : ℕ → Type 0) (s : Opened) → IsIndex rules firsts → length s.opened.items ≡ length firsts → Walks rules First s → s.work.items ≡ [] → (k : ℕ) → Opens rules First k → k < length firsts → is_opened s k ≡ true
walk_marks rules firsts First s index size h empty _ (first k p) less = h.begun k p
walk_marks rules firsts First s index size h empty _ (onward by k p r) less =
    ⊎_elim (λ waits. none_of by (subst (λ ws. Contains ws by) empty waits)) (λ done. done k r (omega (arith, size))) (h.closed by (walk_marks rules firsts First s index size h empty by p (left_within rules firsts r.0 by index r.1)))

pub walk_ends : (rules : List Rule) (firsts : List ℕ) (First : ℕ → Type 0) (s : Opened) → IsIndex rules firsts → length s.opened.items ≡ length firsts → Walks rules First s → s.work.items ≡ [] → AreOpened rules First s.opened.items
walk_ends rules firsts First s index size h empty = λ q n l. (λ m. h.sound n m, λ p. walk_marks rules firsts First s index size h empty n p (left_within rules firsts q n index l))

-- what is opened from those that a step marked
opens_to : (rules : List Rule) (P Q : ℕ → Type 0) → ((k : ℕ) → P k → Q k) → (k : ℕ) → Opens rules P k → Opens rules Q k
opens_to rules P Q f _ (first k p) = first k (f k p)
opens_to rules P Q f _ (onward by k p r) = onward by k (opens_to rules P Q f by p) r

opens_within : (rules : List Rule) (firsts : List ℕ) (P Q : ℕ → Type 0) → IsIndex rules firsts → ((k : ℕ) → k < length firsts → P k → Q k) → (k : ℕ) → Opens rules P k → k < length firsts → Opens rules Q k
opens_within rules firsts P Q index f _ (first k p) less = first k (f k less p)
opens_within rules firsts P Q index f _ (onward by k p r) less = onward by k (opens_within rules firsts P Q index f by p (left_within rules firsts r.0 by index r.1)) r

-- the walk from a fresh one in which a step marked these
pub opened_from_marks : (rules : List Rule) (firsts : List ℕ) (These : ℕ → Type 0) (s t : Opened) (marks : List Bool) → IsIndex rules firsts → IsFresh (length firsts) s → Marks s t These → AreOpened rules (λ k. is_opened t k ≡ true) marks → AreOpened rules These marks
opened_from_marks rules firsts These s t marks index fresh m h = λ q n l. (
  λ marked. opens_to rules (λ k. is_opened t k ≡ true) These (λ k p. ⊎_elim (λ old. let no : true ≡ false = sym old ∙ fresh.none k in cc) (λ new. new.0) (m.only k p)) n ((h q n l).0 marked),
  λ p. (h q n l).1 (opens_within rules firsts These (λ k. is_opened t k ≡ true) index (λ k less these. m.marked k these (let size = fresh.size in omega arith)) n p (left_within rules firsts q n index l)),
)

-- how marks are read
pub mark_read : (bs : List Bool) (k : ℕ) (b : Bool) → k < length bs → b ≡ get_or bs k b → get_or bs k false ≡ b
mark_read bs k b less e = get_or_from_slice_get bs k b false (slice_get_read bs (length bs) k b refl less e)

pub nothing_left : (ws : List ℕ) → length ws ≡ 0 → ws ≡ []
nothing_left [] e = refl
nothing_left (w ∷ ws) e = absurd (omega arith)

-- one more item of a kernel
pub kernel_step : (rules : List Rule) (items : List Item) (i : ℕ) (item : Item) (a b c : Opened) (o : Option SymbolNumber) → slice_get items i ≡ Some item → 0 < item.index → o ≡ next_symbol rules item.production item.index → Marks a b (FollowsKernel rules (take i items)) → Marks b c (λ n. o ≡ Some (Nonterminal n)) → Marks a c (FollowsKernel rules (take (i + 1) items))
kernel_step rules items i item a b c o at pos e one two =
    marks_like a c (λ n. FollowsKernel rules (take i items) n ⊎ (o ≡ Some (Nonterminal n))) (FollowsKernel rules (take (i + 1) items))
    (λ n h. ⊎_elim (λ old. (old.0, old.1, item_old items i old.0 old.1 old.2, old.3, old.4)) (λ new. (item.production, item.index, item_new items i item at, pos, sym e ∙ new)) h)
    (λ n h.
    ⊎_elim (λ old. inl (h.0, h.1, old, h.3, h.4))
    (λ new. inr (e ∙ subst (λ p. next_symbol rules p item.index ≡ Some (Nonterminal n)) (sym new.0) (subst (λ d. next_symbol rules h.0 d ≡ Some (Nonterminal n)) (sym new.1) h.4)))
    (item_more items i item h.0 h.1 at h.2)) (marks_then a b c (FollowsKernel rules (take i items)) (λ n. o ≡ Some (Nonterminal n)) one two)

pub kernel_same : (rules : List Rule) (items : List Item) (i : ℕ) (item : Item) (a b : Opened) → slice_get items i ≡ Some item → item.index ≤ 0 → Marks a b (FollowsKernel rules (take i items)) → Marks a b (FollowsKernel rules (take (i + 1) items))
kernel_same rules items i item a b at none one =
    marks_like a b (FollowsKernel rules (take i items)) (FollowsKernel rules (take (i + 1) items))
    (λ n old. (old.0, old.1, item_old items i old.0 old.1 old.2, old.3, old.4))
    (λ n h. ⊎_elim (λ old. (h.0, h.1, old, h.3, h.4)) (λ new. absurd (let same : item.index ≡ h.1 = new.1 in let pos : 0 < h.1 = h.3 in omega arith)) (item_more items i item h.0 h.1 at h.2)) one

-- one more production
abbrev pub FirstsIn : List Rule → ℕ → ℕ → ℕ → ℕ → Type 0
FirstsIn rules from end to m = (q : ℕ) × (from ≤ q) × (q < end) × (q < to) × (next_symbol rules q 0 ≡ Some (Nonterminal m))

pub firsts_none : (rules : List Rule) (from end : ℕ) (s : Opened) → Marks s s (FirstsIn rules from end from)
firsts_none rules from end s = marks_none s (FirstsIn rules from end from) (λ m h. let low : from ≤ h.0 = h.1 in let high : h.0 < from = h.3 in omega arith)

pub firsts_step : (rules : List Rule) (from end i : ℕ) (a b c : Opened) (o : Option SymbolNumber) → from ≤ i → i < end → o ≡ next_symbol rules i 0 → Marks a b (FirstsIn rules from end i) → Marks b c (λ n. o ≡ Some (Nonterminal n)) → Marks a c (FirstsIn rules from end (i + 1))
firsts_step rules from end i a b c o low high e one two =
    marks_like a c (λ n. FirstsIn rules from end i n ⊎ (o ≡ Some (Nonterminal n))) (FirstsIn rules from end (i + 1))
    (λ n h. ⊎_elim (λ old. (old.0, old.1, old.2, (let less : old.0 < i = old.3 in omega arith), old.4)) (λ new. (i, low, high, omega arith, sym e ∙ new)) h)
    (λ n h.
    ⊎_elim (λ less. inl (h.0, h.1, h.2, less, h.4)) (λ past. let less : h.0 < i + 1 = h.3 in let here : h.0 ≡ i = omega arith in inr (e ∙ subst (λ q. next_symbol rules q 0 ≡ Some (Nonterminal n)) here h.4)) (cases_lt h.0 i))
    (marks_then a b c (FirstsIn rules from end i) (λ n. o ≡ Some (Nonterminal n)) one two)

pub firsts_all : (rules : List Rule) (n from end i : ℕ) (a b : Opened) → ((q : ℕ) → HasLeft rules q n ↔ ((from ≤ q) × (q < end))) → end ≤ i → Marks a b (FirstsIn rules from end i) → Marks a b (Leads rules n)
firsts_all rules n from end i a b these past m =
    marks_like a b (FirstsIn rules from end i) (Leads rules n) (λ k h. (h.0, (these h.0).1 (h.1, h.2), h.4))
    (λ k h. let within = (these h.0).0 h.1 in (h.0, within.0, within.1, (let less : h.0 < end = within.1 in omega arith), h.2)) m
