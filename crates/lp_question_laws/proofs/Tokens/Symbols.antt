-- The function from a token to its symbol: its code, and a call with a token and the number of its terminal.
use Rattle.std.proofs.Common.{inl, inr, ◌≡◌, ℕ, zero, suc, ◌+◌, ◌-◌, ◌<◌, ◌≤◌, ◌^◌, Bool, true, false, cond, List, [], ◌∷◌, ◌++◌, length, map, Option, Some, None, refl, sym, ap, subst, ◌∙◌, arith, codes}
use Rattle.std.specs.Prelude.{slice_get, replicate}
use Rattle.std.specs.List.{flat_map, position_from}
use Rattle.std.specs.Option.{unwrap_or}
use Rattle.lp_driver.specs.Values.{Token}
use Rattle.lp_repr.specs.Numbering.{terminals_of}
use Rattle.lp_repr.specs.Shown.{pattern_text}
use Rattle.lp_repr.specs.declared.repr.Grammar.{Grammar}
use Rattle.lp_repr.specs.declared.repr.TerminalString.{TerminalString}
use Rattle.lp_core.specs.declared.expr.Function.{Function}
use Rattle.lp_core.specs.declared.value.Tag.TheVariants as tag
use Rattle.lp_core.specs.Datum.{Parsed, Unset}
use Rattle.lp_core.specs.Numbers.{index}
use Rattle.lp_core.specs.Reading.{wrapped}
use Rattle.lp_core.specs.Store.{Program}
use Rattle.lp_core.specs.Val.{Val, Plain}
use Rattle.lp_form.specs.declared.part.Part.TheVariants as part
use Rattle.lp_build.specs.Built as built
use Rattle.lp_build.specs.declared.functions.FunctionName.TheVariants as name
use Rattle.lp_machine.specs.declared.lookup.KnownTerminal.{KnownTerminal}
use Rattle.lp_machine.specs.GrammarTables.{known_among}
use Rattle.lp_machine.specs.Lookup.{value_with}
use Rattle.lp_parts.specs.Texts.{token_text, symbol_text}
use Rattle.lp_table.specs.Headers.{header_lines, generics_of, clauses_of}
use Rattle.lp_table.specs.MachineLines.{phantom_parameter}
use Rattle.lp_table.specs.Pieces.{variant_text}
use Rattle.lp_table.specs.TokenLines.{Known, known_from, known_terminals, terminal_variant, group_of, groups_of, in_group, group_arm, token_index, token_value, symbols_header, token_symbols}
use Rattle.lp_table.specs.declared.tokens.Group.{Group}
use Rattle.lp_view.specs.PartLists.{parts_of, over}
use Rattle.lp_maker.specs.Constructs.{stuck, read, read_found, function_of}
use Rattle.lp_maker.specs.Making.{Making, parameters, read_name, number_in, with_variant}
use Rattle.lp_maker.specs.Slots.{Names, no_names, names_of, after_slots, slot_among}
use Rattle.lp_bodies.specs.Arms.{no_arms, with_header}
use Rattle.lp_bodies.specs.Tables.{Reading, reading_of, choice_at, symbol_row, symbol_rows, symbol_function, with_symbols}
use Rattle.lp_turns.specs.DriverCall.{token_val}
use Rattle.lp_code_laws.specs.Ends.Calls.{begun}
use Rattle.lp_code_laws.specs.Ends.Ends.{Moment, Enter, Giving, EndsIn}
use Rattle.lp_code_laws.proofs.Ends.Calls.{enter}
use Rattle.lp_code_laws.proofs.Ends.Lists.{get_other}
use Rattle.lp_code_laws.proofs.Ends.Tags.{slot_is}
use Rattle.lp_code_laws.proofs.Ends.Values as values
use Rattle.lp_question_laws.proofs.Gotos.Arms.{Shows}
use Rattle.lp_question_laws.proofs.Gotos.LinkHeaders.{IsWordy, wordy_by, header_names, prefixed_bound, bind_all}
use Rattle.lp_question_laws.proofs.Gotos.LinkMaps.{numbered_here, numbered_kept}
use Rattle.lp_question_laws.proofs.Gotos.Whole.{IsWhole, flat, parts_over}
use Rattle.lp_question_laws.specs.Tokens.Told.{AreTold}
use Rattle.lp_question_laws.proofs.Tokens.Captures.{wordy}
use Rattle.lp_question_laws.proofs.Tokens.Forms.{is_form, AreTexts}
use Rattle.lp_question_laws.proofs.Tokens.Groups.{none_from, numbered, IsConverted, AreConverted, converted, PatternAt, pattern_at, known_cons, has_its_number, group_is, group_there, in_its_group, all_in_group, same_itself}
use Rattle.lp_question_laws.proofs.Tokens.Known.{AreKnown}
use Rattle.lp_question_laws.proofs.Tokens.Members.{IsMember, AreMembers}
use Rattle.lp_question_laws.proofs.Tokens.SymbolRows.{AllSmall, numbers, numbers_small, forms_whole, group_form, done, arms_of, after_all, Kept, rows_kept, rows_shown, Reached, reached}
use Rattle.lp_question_laws.proofs.Tokens.SymbolRun.{arms_end, two_known, Wraps, tag_of_group, forms_in, whole_row, whole_made, match_texts, match_names, match_made, match_row}
use Rattle.lp_question_laws.proofs.Tokens.Texts.{texts_behind}
use Rattle.lp_question_laws.proofs.Tokens.FormOf.{AllWord}

-- a slot that a call begins with, behind two arguments
slot_there : (a b u : Val) (f x : ℕ) → 2 ≤ x → x ≤ f → slice_get (a ∷ b ∷ replicate (f + 1 - 2) u) x ≡ Some u
slot_there a b u f zero low high = absurd (omega arith)
slot_there a b u f (suc zero) low high = absurd (omega arith)
slot_there a b u f (suc (suc x)) low high = filled (f + 1 - 2) x (omega arith)
  where
    filled : (n k : ℕ) → k < n → slice_get (replicate n u) k ≡ Some u
    filled zero k lt = absurd (omega arith)
    filled (suc n) zero lt = refl
    filled (suc n) (suc k) lt = filled n k (omega arith)

-- a variant has its number
variant_numbered : (v : List ℕ) (m : Making) → number_in v (with_variant v m).variants ≡ Some (unwrap_or (number_in v m.variants) (length m.variants))
variant_numbered v m = by (number_in v m.variants) refl
  where
    by : (o : Option ℕ) → number_in v m.variants ≡ o → number_in v (with_variant v m).variants ≡ Some (unwrap_or o (length m.variants))
    by None is = numbered_here v (length m.variants) m.variants is
    by (Some k) is = numbered_kept v v (length m.variants) k m.variants is

-- a form that stands among some is found
some_place : (test : List ℕ → Bool) (n i : ℕ) (xs : List (List ℕ)) (x : List ℕ) → slice_get xs i ≡ Some x → test x ≡ true → (j : ℕ) × (position_from test n xs ≡ Some j)
some_place test n i [] x at is = absurd cc
some_place test n i (y ∷ xs) x at is = by (test y) refl i at (λ k at. some_place test (n + 1) k xs x at is)
  where
    by : (b : Bool) → test y ≡ b → (i : ℕ) → slice_get (y ∷ xs) i ≡ Some x → ((k : ℕ) → slice_get xs k ≡ Some x → (j : ℕ) × (position_from test (n + 1) xs ≡ Some j)) → (j : ℕ) × (cond b (Some n) (position_from test (n + 1) xs) ≡ Some j)
    by true e i at rest = (n, refl)
    by false e zero at rest = (let same : y ≡ x = cc in let bad : true ≡ false = sym (ap test same ∙ is) ∙ e in absurd cc)
    by false e (suc i) at rest = rest i at

mapped_at : (ks : List Known) (i : ℕ) (k : Known) → slice_get ks i ≡ Some k → slice_get (map (λ (k : Known). pattern_text k.2) ks) i ≡ Some (pattern_text k.2)
mapped_at [] i k at = absurd cc
mapped_at (x ∷ ks) zero k at = (let same : x ≡ k = cc in ap (λ (y : Known). Some (pattern_text y.2)) same)
mapped_at (x ∷ ks) (suc i) k at = mapped_at ks i k at

some_members : (ks : List Known) (i : ℕ) (k : Known) → slice_get ks i ≡ Some k → 0 < length ks
some_members [] i k at = absurd cc
some_members (x ∷ ks) i k at = omega arith

members_by : (prefix : List ℕ) (n : ℕ) (ks : List Known) → ((i : ℕ) (k : Known) → slice_get ks i ≡ Some k → IsMember prefix n k) → AreMembers prefix n ks
members_by prefix n [] h = tt
members_by prefix n (k ∷ ks) h = (h 0 k refl, members_by prefix n ks (λ i. h (suc i)))

module _ (g : Grammar) where
  converted_at : (ks : List Known) (j : ℕ) (k : Known) → AreConverted g ks → slice_get ks j ≡ Some k → IsConverted g k
  converted_at [] j k a at = absurd cc
  converted_at (x ∷ ks) zero k a at = (let same : x ≡ k = cc in subst (IsConverted g) same a.0)
  converted_at (x ∷ ks) (suc j) k a at = converted_at ks j k a.1 at

  known_count : (n : ℕ) (ts : List TerminalString) → AreKnown g ts → length (known_from g n ts) ≤ length ts
  known_count n [] a = omega arith
  known_count n (t ∷ ts) (inl a) = (let rest = known_count (n + 1) ts a.1 in omega (arith, ap length (known_cons g n t ts a.0), rest))
  known_count n (t ∷ ts) (inr e) = omega (arith, ap length (none_from g n t ts e))

  -- ---- the header
  two_named : Names
  two_named = names_of two_known 2

  header_bound : IsWordy g.prefix → parameters g.prefix (symbols_header g) ≡ two_named
  unfolding two_named phantom_parameter
  header_bound w =
      header_names g.prefix name.TokenToSymbol (generics_of g) (token_index g ∷ token_value g ∷ phantom_parameter g ∷ []) (symbol_text g) (clauses_of g)
      ∙ ap (λ ns. bind_all g.prefix ns (token_value g ∷ phantom_parameter g ∷ [])) (prefixed_bound g.prefix (codes "token_index") (codes " usize") no_names w (wordy_by (codes "token_index") refl refl refl) (omega arith))
      ∙ ap (λ ns. bind_all g.prefix ns (phantom_parameter g ∷ [])) (prefixed_bound g.prefix (codes "token") (32 ∷ token_text g) (names_of ((codes "~token_index", 0) ∷ []) 1) w (wordy_by (codes "token") refl refl refl) (omega arith))

  header_whole : IsWhole (symbols_header g)
  unfolding header_lines
  header_whole = refl

  header_no_arm : (s : Reading) → symbol_row s (symbols_header g) ≡ reading_of (with_header s.made.prefix (symbols_header g) s.arms) s.made
  unfolding header_lines
  header_no_arm s = refl

  -- ---- the rows
  abbrev ks : List Known
  ks = known_terminals g

  abbrev groups : List Group
  groups = groups_of ks

  groups_flat : (gs : List Group) → flat_map (group_arm g.prefix ks) gs ≡ flat (map (group_form g.prefix ks) gs)
  groups_flat [] = refl
  groups_flat (x ∷ gs) = ap (λ t. group_arm g.prefix ks x ++ t) (groups_flat gs)

  symbols_parts : parts_of (token_symbols g) ≡ symbols_header g ∷ map (group_form g.prefix ks) groups
  unfolding token_symbols
  symbols_parts =
      ap (λ t. parts_of (built.over part.TokenToSymbol [] (symbols_header g ++ t))) (groups_flat groups)
      ∙ parts_over part.TokenToSymbol [] (symbols_header g ∷ map (group_form g.prefix ks) groups) (header_whole, forms_whole g.prefix ks groups)

  module _ (w : AllWord g.prefix) (known : AreKnown g (terminals_of g)) (told : AreTold g) (few : length (terminals_of g) ≤ 2 ^ 63) (m : Making) (same : m.prefix ≡ g.prefix) where
    abbrev start : Reading
    start = reading_of (with_header m.prefix (symbols_header g) no_arms) m

    abbrev pub whole : Reading
    whole = after_all g.prefix ks start groups

    rows_are : symbol_rows m (token_symbols g) ≡ whole
    rows_are = ap (over symbol_row (reading_of no_arms m)) symbols_parts ∙ ap (λ s. over symbol_row s (map (group_form g.prefix ks) groups)) (header_no_arm (reading_of no_arms m))

    -- what is made with the function
    pub symbols_made : with_symbols (token_symbols g) m ≡ whole.made
    symbols_made = ap (λ (r : Reading). r.made) rows_are

    small : (group : Group) → AllSmall (numbers g.prefix ks group)
    small group = numbers_small group 0 ks (numbered g 0 (terminals_of g) known) (omega (arith, known_count 0 (terminals_of g) known))

    start_names : start.arms.names ≡ two_named
    start_names = ap (λ (q : List ℕ). parameters q (symbols_header g)) same ∙ header_bound (wordy g.prefix w)

    start_known : start.arms.names.known ≡ two_known
    unfolding two_named
    start_known = ap (λ (n : Names). n.known) start_names

    start_next : start.arms.names.next ≡ 2
    unfolding two_named
    start_next = ap (λ (n : Names). n.next) start_names

    kept : Kept g.prefix ks start whole
    kept = rows_kept g.prefix ks small groups start

    abbrev last_slot : ℕ
    last_slot = whole.arms.names.next

    symbols_are : symbol_function m (token_symbols g) ≡ record { params = 2; slots = last_slot + 1 - 2; body = choice_at (read 0) last_slot stuck whole.arms }
    symbols_are =
        let a = whole.arms in
        ap (λ (r : Reading). function_of r.arms.params (after_slots 1 r.arms.names) (choice_at (read_name r.arms.names (codes "~token_index")) r.arms.names.next stuck r.arms)) rows_are
        ∙ ap (λ k. record { params = k; slots = last_slot + 1 - k; body = choice_at (read_name a.names (codes "~token_index")) last_slot stuck a }) (kept.params ∙ start_next)
        ∙ ap (λ (l : List (List ℕ × ℕ)). record { params = 2; slots = last_slot + 1 - 2; body = choice_at (read_found (slot_among (codes "~token_index") None l)) last_slot stuck a }) (kept.slots.known ∙ start_known)

    shown : Shows whole.arms (arms_of g.prefix ks start groups)
    shown = rows_shown g.prefix ks small groups start [] (record { cases = refl; bodies = refl })

    -- ---- a call with a token of a terminal
    module _ (p : Program) (f : ℕ) (there : slice_get p.functions f ≡ Some (symbol_function m (token_symbols g))) (later : List (List ℕ)) (texts : p.texts ≡ whole.made.texts ++ later) (token : Token) (j : ℕ) (k : KnownTerminal) (at : slice_get (known_among g (terminals_of g)) j ≡ Some k) (fits : is_form token k.form ≡ true) where
      its : PatternAt g 0 j (terminals_of g) k
      its = pattern_at g 0 j (terminals_of g) k known at

      abbrev one : Known
      one = (0 + j, terminal_variant g (0 + j), its.pattern)

      abbrev group : Group
      group = group_of one

      r : Reached g.prefix ks small p (0 + j) group start groups
      r = reached g.prefix ks small p (0 + j) group (λ x. has_its_number x 0 j ks one (numbered g 0 (terminals_of g) known) its.there) groups start (group_there ks j one its.there)

      reading_known : r.reading.arms.names.known ≡ two_known
      reading_known = r.sooner.slots.known ∙ start_known

      reading_low : 2 ≤ r.reading.arms.names.next
      reading_low = omega (arith, r.sooner.slots.next, start_next)

      last_low : 2 ≤ last_slot
      last_low = omega (arith, kept.slots.next, start_next)

      reading_prefix : r.reading.made.prefix ≡ g.prefix
      reading_prefix = r.sooner.made.prefix ∙ same

      abbrev arguments : List Val
      arguments = index (0 + j) ∷ token_val token ∷ []

      abbrev code : Function
      code = record { params = 2; slots = last_slot + 1 - 2; body = choice_at (read 0) last_slot stuck whole.arms }

      -- where the row of the group begins
      abbrev chosen : Moment → Moment
      chosen n = slot_is last_slot (index (0 + j)) (begun code arguments n)

      token_there : (n : Moment) → slice_get (chosen n).store.env 1 ≡ Some (token_val token)
      token_there n = get_other (begun code arguments n).store.env last_slot 1 (index (0 + j)) (λ e. omega (arith, e, last_low))

      row_ends : (n : Moment) (v : Val) → Wraps p (done g.prefix ks r.reading group).value (chosen n) (tag_of_group r.reading group) v → EndsIn p (Enter f arguments) n 1 (Giving (wrapped (tag_of_group r.reading group) v) n)
      row_ends n v wraps =
          enter (there ∙ ap Some symbols_are) refl
          (arms_end stuck shown (values.read refl refl) r.picks (slot_there (index (0 + j)) (token_val token) (Plain Unset) last_slot last_slot last_low (omega arith)) wraps.ends) refl

      -- the call gives the variant with the token's value
      pub record Called : Type 0 where
        pub number : ℕ
        pub variant : number_in (variant_text (terminal_variant g (0 + j))) whole.made.variants ≡ Some number
        pub ends : (n : Moment) → EndsIn p (Enter f arguments) n 1 (Giving (wrapped (tag.Variant number) (Plain (Parsed (value_with k.captures token)))) n)

      abbrev number : ℕ
      number = unwrap_or (number_in (variant_text group.variant) r.reading.made.variants) (length r.reading.made.variants)

      by : (c : ℕ) → group.captures ≡ c → Called
      by zero none =
          let counted : k.captures ≡ 0 = its.captures ∙ none in
          record {
            number = number;
            variant = r.later.variants (variant_text group.variant) number (ap (λ (x : Making). number_in (variant_text group.variant) x.variants) (whole_made g.prefix w ks r.reading reading_known reading_prefix group none) ∙ variant_numbered (variant_text group.variant) r.reading.made);
            ends = λ n. subst (λ c. EndsIn p (Enter f arguments) n 1 (Giving (wrapped (tag.Variant number) (Plain (Parsed (value_with c token)))) n)) (sym counted)
                (row_ends n (token_val token) (whole_row g.prefix w ks r.reading reading_known reading_prefix group none p token (chosen n) (token_there n)));
          }
      by (suc c) many =
          let counted : k.captures ≡ suc c = its.captures ∙ many in
          let members = in_group group ks in
          let member : (i : ℕ) (x : Known) → slice_get members i ≡ Some x → IsMember g.prefix (suc c) x =
          all_in_group (IsMember g.prefix (suc c)) group ks
          (λ i x at is.
          let conversion = converted_at ks i x (converted g known) at in
          let holes : length (x.2).holes ≡ suc c = sym (ap (λ (y : Group). y.captures) (group_is group (group_of x) is)) ∙ many in
          record { told = told conversion.0 conversion.1 x.2 conversion.2 conversion.3 (omega (arith, holes)); holes = holes }) in
          let are = members_by g.prefix (suc c) members member in
          let place = in_its_group group ks j one its.there (same_itself group) in
          let some = some_members members place.0 one place.1 in
          let fs = forms_in g.prefix w ks r.reading reading_known reading_prefix group in
          let fitting : is_form token (pattern_text its.pattern) ≡ true = ap (is_form token) (sym its.form) ∙ fits in
          let found = some_place (is_form token) 0 place.0 fs (pattern_text its.pattern) (mapped_at members place.0 one place.1) fitting in
          let there_texts : AreTexts p.texts (length r.reading.made.texts) fs =
          texts_behind p.texts r.reading.made.texts fs r.later.texts.0 later
          (texts ∙ ap (λ (l : List (List ℕ)). l ++ later) (r.later.texts.1 ∙ ap (λ (l : List (List ℕ)). l ++ r.later.texts.0) (match_texts g.prefix w ks r.reading reading_known reading_prefix group c many are some))) in
          let slot = r.reading.arms.names.next in
          let within : slot + 1 ≤ last_slot = omega (arith, r.room.next, ap (λ (names : Names). names.next) (match_names g.prefix w ks r.reading reading_known reading_prefix group c many are some)) in
          record {
            number = number;
            variant = r.later.variants (variant_text group.variant) number ((match_made g.prefix w ks r.reading reading_known reading_prefix group c many are some).variants (variant_text group.variant) number (variant_numbered (variant_text group.variant) r.reading.made));
            ends = λ n.
                let free : slice_get (chosen n).store.env slot ≡ Some (Plain Unset) =
                get_other (begun code arguments n).store.env last_slot slot (index (0 + j)) (λ e. omega (arith, e, within)) ∙ slot_there (index (0 + j)) (token_val token) (Plain Unset) last_slot slot reading_low (omega (arith, within)) in
                subst (λ b. EndsIn p (Enter f arguments) n 1 (Giving (wrapped (tag.Variant number) (Plain (Parsed (value_with b token)))) n)) (sym counted)
                (row_ends n (Plain (Parsed (value_with (suc c) token)))
                (match_row g.prefix w ks r.reading reading_known reading_prefix group c many are some p token (chosen n) found.0 (Plain Unset) (token_there n) there_texts found.1 free (λ e. omega (arith, e, reading_low))));
          }

      pub symbol_called : Called
      symbol_called = by group.captures refl
