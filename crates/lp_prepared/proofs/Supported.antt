-- A grammar file asks for the code of one back end.
use Rattle.std.proofs.Common.{◌≡◌, ◌≢◌, ℕ, Bool, true, false, List, ◌++◌, Result, Ok, Err, IfOk, ap, subst, sym, refl, ◌∙◌}
use Rattle.lp_emit.specs.Causes.{Refuses}
use Rattle.lp_emit.specs.declared.errors.EmitError.TheVariants.{Unsupported}
use Rattle.lp_plain.specs.Front.{LowersTo}
use Rattle.lp_reading.specs.Bytes.{IsPlainOf}
use Rattle.lp_reading.specs.Externs.{extern_block}
use Rattle.lp_reading.specs.Grammars.{FileTree, file_tree, grammar, grammar_tree}
use Rattle.lp_reading.specs.Rules.{rules}
use Rattle.lp_repr.specs.declared.lr1.StartStates.{StartStates}
use Rattle.lp_repr.specs.declared.repr.Algorithm.{Algorithm}
use Rattle.lp_repr.specs.declared.repr.Grammar.{Grammar}
use Rattle.lp_repr.specs.declared.repr.LrCodeGeneration.{LrCodeGeneration}
use Rattle.lp_repr.specs.declared.repr.LrCodeGeneration.TheVariants.{TableDriven, RecursiveAscent, TestAll}
use Rattle.lp_repr.specs.declared.consts.TheConstants.{RECURSIVE_ASCENT, TABLE_DRIVEN}
use Rattle.lp_tok.specs.declared.tok.Tok.{Tok}
use Rattle.lp_tok.specs.declared.tok.Tok.TheVariants.{Hash, LeftBracket, RightBracket}
use Rattle.lp_syntax.specs.declared.plain.PlainGrammar.{PlainGrammar}
use Rattle.lp_types.specs.Left.{Left}
use Rattle.lp_types.specs.Reading.{Answers, Found, Read, Fails, Deep, Reading, ◌>>=◌, then, give, choose, where_next, passed, passed_word, expected, expected_word, at_end}
use Rattle.lp_types.specs.Spelled.{IsReading, reads, no_room}
use Rattle.lp_types.specs.declared.error.PlainError.{PlainError}
use Rattle.lp_reading.specs.Heads.{HeadTree, attributes, uses, codegen, marked_codegen, named_codegen, table_driven, lists, head}

-- of what a reading finds this holds
abbrev Finds : {A : Type 0} → (A → Type 0) → Reading A → Type 0
Finds {A} P r = (ts : Left) (x : A) (rest : Left) → r ts ≡ Read x rest → P x

finds_then : {A B : Type 0} (P : A → Type 0) (Q : B → Type 0) (found : Found A) (f : A → Reading B) → ((x : A) (rest : Left) → found ≡ Read x rest → P x) → ((x : A) → P x → Finds Q (f x)) → (y : B) (rest : Left) → then found f ≡ Read y rest → Q y
unfolding then
finds_then P Q (Read x left) f p h y rest e = h x (p x left refl) left y rest e
finds_then P Q (Fails fault) f p h y rest e = cc
finds_then P Q Deep f p h y rest e = cc

finds_with : {A B : Type 0} (P : A → Type 0) (Q : B → Type 0) (p : Reading A) (f : A → Reading B) → Finds P p → ((x : A) → P x → Finds Q (f x)) → Finds Q (p >>= f)
finds_with P Q p f held h = λ ts y rest e. finds_then P Q (p ts) f (held ts) h y rest e

-- whatever the first reading finds
finds_after : {A B : Type 0} (Q : B → Type 0) (p : Reading A) (f : A → Reading B) → ((x : A) → Finds Q (f x)) → Finds Q (p >>= f)
finds_after Q p f h = finds_with (λ _. Unit {0}) Q p f (λ ts x rest e. tt) (λ x _. h x)

found_same : {A : Type 0} (x y : A) (a b : Left) → Read x a ≡ Read y b → x ≡ y
found_same x y a b e = cc

finds_give : {A : Type 0} (P : A → Type 0) (x : A) → P x → Finds P (give x)
finds_give P x p = λ ts y rest e. subst P (found_same x y ts rest e) p

finds_choose : {A : Type 0} (P : A → Type 0) (b : Bool) (p q : Reading A) → Finds P p → Finds P q → Finds P (choose b p q)
unfolding choose
finds_choose P true p q one other = one
finds_choose P false p q one other = other

finds_where : {A : Type 0} (P : A → Type 0) (t : Tok) (p q : Reading A) → Finds P p → Finds P q → Finds P (where_next t p q)
unfolding where_next
finds_where P t p q one other = finds_after P (passed t) (λ b. choose b p q) (λ b. finds_choose P b p q one other)

-- the code of one back end
abbrev IsOne : LrCodeGeneration → Type 0
IsOne c = c ≢ TestAll

finds_table : Finds IsOne table_driven
unfolding table_driven
finds_table = finds_after IsOne (expected_word TABLE_DRIVEN.now) (λ _. give TableDriven) (λ _. finds_give IsOne TableDriven (λ e. cc))

finds_named : Finds IsOne named_codegen
unfolding named_codegen
finds_named = finds_after IsOne (passed_word RECURSIVE_ASCENT.now) (λ b. choose b (give RecursiveAscent) table_driven) (λ b. finds_choose IsOne b (give RecursiveAscent) table_driven (finds_give IsOne RecursiveAscent (λ e. cc)) finds_table)

finds_marked : Finds IsOne marked_codegen
unfolding marked_codegen
finds_marked =
    finds_after IsOne (expected LeftBracket) (λ _. named_codegen >>= λ found. expected RightBracket >>= λ _. give found) (λ _.
    finds_with IsOne IsOne named_codegen (λ found. expected RightBracket >>= λ _. give found) finds_named (λ found one.
    finds_after IsOne (expected RightBracket) (λ _. give found) (λ _. finds_give IsOne found one)))

finds_codegen : Finds IsOne codegen
unfolding codegen
finds_codegen = finds_where IsOne Hash marked_codegen (give TableDriven) finds_marked (finds_give IsOne TableDriven (λ e. cc))

abbrev HasOne : HeadTree → Type 0
HasOne h = IsOne h.codegen

finds_head : Finds HasOne head
unfolding head
finds_head =
    finds_after HasOne attributes _ (λ a.
    finds_after HasOne uses _ (λ u.
    finds_with IsOne HasOne codegen _ finds_codegen (λ c one.
    finds_after HasOne lists _ (λ l.
    finds_give HasOne (record { attributes = a; uses = u; codegen = c; lists = l }) one))))

abbrev AsksForOne : FileTree → Type 0
AsksForOne tree = HasOne tree.head

finds_grammar : Finds AsksForOne grammar
unfolding grammar
finds_grammar =
    finds_with HasOne AsksForOne head _ finds_head (λ h one.
    finds_after AsksForOne rules _ (λ before.
    finds_after AsksForOne extern_block _ (λ block.
    finds_after AsksForOne rules _ (λ behind.
    finds_after AsksForOne at_end _ (λ _.
    finds_give AsksForOne (file_tree h block (before ++ behind)) one)))))

answered_one : (r : Result PlainGrammar PlainError) (tokens rest : Left) → Answers grammar_tree (grammar tokens) r rest → IfOk r (λ g. IsOne g.algorithm.codegen)
answered_one (Ok g) tokens rest a = finds_grammar tokens (grammar_tree g) rest a
answered_one (Err e) tokens rest a = tt

read_one : (text : List ℕ) (r : Result PlainGrammar PlainError) → IsReading grammar_tree grammar text 0 r → IfOk r (λ g. IsOne g.algorithm.codegen)
read_one text _ (reads tokens rest r spelled a) = answered_one r tokens rest a
read_one text _ no_room = tt

pub never_unsupported : (text : List ℕ) (plain : PlainGrammar) (g : Grammar) (tables : List StartStates) → IsPlainOf text plain → LowersTo plain g → Refuses g tables Unsupported → ⊥
never_unsupported text plain g tables p l r =
    read_one text (Ok plain) p.file (ap (λ (a : Algorithm). a.codegen) (sym l.1.algorithm) ∙ r.1)
