-- What lasts while lines of a reduction bind their names.
use Rattle.std.proofs.Common.{◌≡◌, ℕ, ◌<◌, ◌≤◌, ◌^◌, false, ◌&&◌, List, ◌∷◌, ◌++◌, codes, decimal, refl, ap, sym, subst, arith}
use Rattle.std.specs.Prelude.{slice_set}
use Rattle.std.specs.Str.{bytes_eq}
use Rattle.std.proofs.lemmas.Bool.{ne_eqb}
use Rattle.lp_core.specs.Val.{Val}
use Rattle.lp_maker.specs.Slots.{Names, after_slots, bound}
use Rattle.lp_code_laws.proofs.Slots.Names.{other_text, let_other, kept, shows_after}
use Rattle.lp_code_laws.proofs.Slots.Slots.{keeps_all, keeps_both, keeps_set}
use Rattle.lp_question_laws.proofs.Gotos.Digits.{Lacks, decimal_lacks}
use Rattle.lp_question_laws.specs.Reductions.Outer.{sym_name, IsOuter, IsInner, Lasts}

-- nothing has run
pub lasts_all : (names : Names) (env : List Val) → Lasts names env names env
lasts_all names env = record { keeps = keeps_all names.next env; shown = λ q v o h. h }

module _ {old names : Names} {before env : List Val} (h : Lasts old before names env) (low : old.next ≤ names.next) where
  -- a name that lines bind is bound
  pub lasts_let : (name : List ℕ) (w : Val) → IsInner name → Lasts old before (bound name names) (slice_set env names.next w)
  lasts_let name w inner = record {
    keeps = keeps_both h.keeps (keeps_set old.next names.next env w low);
    shown = λ q v o s. let_other name w (inner q o) (h.shown q v o s);
  }

  -- slots are given out, and one of them is written
  pub lasts_after : (c : ℕ) → Lasts old before (after_slots c names) env
  lasts_after c = record { keeps = h.keeps; shown = λ q v o s. shows_after c (h.shown q v o s) }

  pub lasts_set : (x : ℕ) (w : Val) → names.next ≤ x → Lasts old before names (slice_set env x w)
  lasts_set x w above = record {
    keeps = keeps_both h.keeps (keeps_set old.next x env w (omega arith));
    shown = λ q v o s. kept (h.shown q v o s) (keeps_set names.next x env w above);
  }

-- ---- names

digits_same : (i : ℕ) (ds : List ℕ) → sym_name i ≡ codes "~sym" ++ ds → decimal i ≡ ds
digits_same i ds e = cc

symbols_apart : (i : ℕ) → i < 2 ^ 64 → sym_name i ≡ codes "~symbols" → ⊥
symbols_apart i h e = (subst (Lacks 98) (digits_same i (codes "bols") e) (decimal_lacks 98 i (λ r. omega arith) h)).0 refl

pub outer_symbols : IsOuter (codes "~symbols")
outer_symbols = record { no_symbol = λ i h. other_text (sym_name i) (codes "~symbols") (symbols_apart i h); no_start = refl; no_end = refl; no_value = refl }

pub outer_states : IsOuter (codes "~states")
outer_states = record { no_symbol = λ i h. refl; no_start = refl; no_end = refl; no_value = refl }

pub outer_lookahead : IsOuter (codes "~lookahead_start")
outer_lookahead = record { no_symbol = λ i h. refl; no_start = refl; no_end = refl; no_value = refl }

-- a name without the mark
pub outer_word : (c : ℕ) (cs : List ℕ) → (c ≡ 126 → ⊥) → IsOuter (c ∷ cs)
outer_word c cs other =
    let apart : (rest : List ℕ) → bytes_eq (126 ∷ rest) (c ∷ cs) ≡ false = λ rest. ap (λ b. b && bytes_eq rest cs) (ne_eqb 126 c (λ e. other (sym e))) in
    record { no_symbol = λ i h. apart (codes "sym" ++ decimal i); no_start = apart (codes "start"); no_end = apart (codes "end"); no_value = apart (codes "nt") }

pub inner_symbol : (i : ℕ) → i < 2 ^ 64 → IsInner (sym_name i)
inner_symbol i h = λ q o. o.no_symbol i h

pub inner_start : IsInner (codes "~start")
inner_start = λ q o. o.no_start

pub inner_end : IsInner (codes "~end")
inner_end = λ q o. o.no_end

pub inner_value : IsInner (codes "~nt")
inner_value = λ q o. o.no_value
