-- The value of a token that a group's pattern captures is the machine's.
use Rattle.std.proofs.Common.{◌≡◌, ℕ, zero, suc, ◌+◌, ◌==◌, List, [], ◌∷◌, ◌++◌, map, Option, Some, None, refl, sym, ap, subst, ◌∙◌, arith, append_assoc, append-nil, if◌then◌else◌}
use Rattle.std.specs.Prelude.{slice_get}
use Rattle.std.specs.List.{range_with_len}
use Rattle.std.specs.Option.{option_map}
use Rattle.std.proofs.lemmas.Bool.{ne_eqb}
use Rattle.lp_driver.specs.Values.{Text, Token, Token_value, Payload, Tuple}
use Rattle.lp_core.specs.declared.expr.Target.{Target}
use Rattle.lp_core.specs.Datum.{Parsed}
use Rattle.lp_core.specs.JoinMeaning.{payloads, tuple_val}
use Rattle.lp_core.specs.OpMeaning.{text_or_empty, payload_in}
use Rattle.lp_core.specs.Store.{Program}
use Rattle.lp_core.specs.Tree.{end, trees_of}
use Rattle.lp_core.specs.Val.{Val, Plain}
use Rattle.lp_machine.specs.Lookup.{value_with, payloads_upto}
use Rattle.lp_machine.specs.Lookup as machine
use Rattle.lp_turns.specs.DriverCall.{token_val}
use Rattle.lp_code_laws.specs.Ends.Ends.{Moment, Eval, Arguments, Outcome, Giving, EndsIn}
use Rattle.lp_code_laws.proofs.Ends.Calls.{joined_found}
use Rattle.lp_code_laws.proofs.Ends.Rules.{apply_found, argument, call}
use Rattle.lp_code_laws.proofs.Ends.Values.{read}
use Rattle.lp_question_laws.proofs.Tokens.Members.{payload_code, value_code}

-- the text of a payload
abbrev text_at : Token → ℕ → Text
text_at token j = text_or_empty (slice_get token.payloads j)

same_text : (token : Token) (j : ℕ) → text_at token j ≡ machine.payload token j
same_text token j = by (slice_get token.payloads j)
  where
    by : (o : Option Text) → text_or_empty o ≡ machine.text_or_empty o
    by None = refl
    by (Some t) = refl

-- the texts of the first so many
range_end : {X : Type 0} (f : ℕ → X) (k n : ℕ) → map f (range_with_len k (suc n)) ≡ map f (range_with_len k n) ++ f (k + n) ∷ []
range_end f k zero = (let none : k ≡ k + 0 = omega arith in ap (λ i. f i ∷ []) none)
range_end f k (suc n) = (let next : (k + 1) + n ≡ k + suc n = omega arith in ap (λ l. f k ∷ l) (range_end f (k + 1) n ∙ ap (λ i. map f (range_with_len (k + 1) n) ++ f i ∷ []) next))

texts_are : (token : Token) (n : ℕ) → map (text_at token) (range_with_len 0 n) ≡ payloads_upto n token
texts_are token zero = refl
texts_are token (suc n) =
    let none : 0 + n ≡ n = omega arith in
    range_end (text_at token) 0 n
    ∙ ap (λ l. l ++ text_at token (0 + n) ∷ []) (texts_are token n)
    ∙ ap (λ t. payloads_upto n token ++ t ∷ []) (ap (text_at token) none ∙ same_text token n)

joined_texts : (token : Token) (texts : List Text) (js : List ℕ) → payloads texts (map (λ j. payload_in j token) js) ≡ Some (texts ++ map (text_at token) js)
joined_texts token texts [] = ap Some (sym (append-nil texts))
joined_texts token texts (j ∷ js) = joined_texts token (texts ++ text_at token j ∷ []) js ∙ ap Some (append_assoc texts (text_at token j ∷ []) (map (text_at token) js))

tuple_is : (token : Token) (n : ℕ) → value_with (suc (suc n)) token ≡ Tuple (payloads_upto (suc (suc n)) token)
tuple_is token n =
    ap (λ b. if b then Token_value token else (if suc (suc n) == 1 then Payload (machine.payload token 0) else Tuple (payloads_upto (suc (suc n)) token))) (ne_eqb (suc (suc n)) 0 (λ e. omega arith))
    ∙ ap (λ b. if b then Payload (machine.payload token 0) else Tuple (payloads_upto (suc (suc n)) token)) (ne_eqb (suc (suc n)) 1 (λ e. omega arith))

module _ {p : Program} (slot : ℕ) (token : Token) {m : Moment} (there : slice_get m.store.env slot ≡ Some (token_val token)) where
  payload_ends : (j : ℕ) → EndsIn p (Eval (payload_code slot j)) m 0 (Giving (payload_in j token) m)
  payload_ends j = apply_found _ (read there refl) refl refl

  payloads_ends : (g : Target) (js : List ℕ) (vs : List Val) (o : Outcome) → EndsIn p (Arguments g end (vs ++ map (λ j. payload_in j token) js)) m 0 o → EndsIn p (Arguments g (trees_of (map (payload_code slot) js)) vs) m 0 o
  payloads_ends g [] vs o h = subst (λ l. EndsIn p (Arguments g end l) m 0 o) (append-nil vs) h
  payloads_ends g (j ∷ js) vs o h =
      argument (payload_ends j) (payloads_ends g js (vs ++ payload_in j token ∷ []) o (subst (λ l. EndsIn p (Arguments g end l) m 0 o) (sym (append_assoc vs (payload_in j token ∷ []) (map (λ j. payload_in j token) js))) h))

  -- one payload, or the tuple of several
  pub value_ends : (n : ℕ) → EndsIn p (Eval (value_code slot (suc n))) m 0 (Giving (Plain (Parsed (value_with (suc n) token))) m)
  value_ends zero = subst (λ t. EndsIn p (Eval (payload_code slot 0)) m 0 (Giving (Plain (Parsed (Payload t))) m)) (same_text token 0) (payload_ends 0)
  value_ends (suc n) =
      let js = range_with_len 0 (suc (suc n)) in
      let texts = payloads_upto (suc (suc n)) token in
      let found : option_map tuple_val (payloads [] (map (λ j. payload_in j token) js)) ≡ Some (tuple_val texts) = ap (option_map tuple_val) (joined_texts token [] js) ∙ ap (λ l. Some (tuple_val l)) (texts_are token (suc (suc n))) in
      subst (λ v. EndsIn p (Eval (value_code slot (suc (suc n)))) m 0 (Giving (Plain (Parsed v)) m)) (sym (tuple_is token n))
      (call (payloads_ends _ js [] (Giving (tuple_val texts) m) (joined_found _ refl refl found)))
