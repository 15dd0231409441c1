-- Readings: what stands at the front of the tokens that are left, put together from its parts.
use Rattle.std.specs.Prelude.{◌≡◌, ℕ, Bool, true, false, List, [], ◌∷◌, ◌++◌, Option, Some, None, Result, Ok, Err, zero, suc}
use Rattle.std.specs.Str.{bytes_eq}
use Rattle.lp_repr.specs.declared.values.ParseError.{ParseError}
use Rattle.lp_tok.specs.declared.tok.Error.{Error}
use Rattle.lp_tok.specs.declared.tok.Tok.{Tok}
use Rattle.lp_tok.specs.declared.tok.Tok.TheVariants.{Comma}
use Rattle.lp_types.specs.declared.error.PlainError.{PlainError}
use Rattle.lp_types.specs.declared.error.PlainError.TheVariants.{Parse, Memory}
use Rattle.lp_types.specs.declared.texts.Kind.{Kind}
use Rattle.lp_types.specs.declared.texts.Kind.TheVariants as kind
use Rattle.lp_types.specs.Left.{Left, Fault, fault_of, next, after, place, stop, failure, size, is_end}
use Rattle.lp_types.specs.Marks.{is_tok, text_of}

-- the tokens begin with what means x, and the rest follows; or they begin with nothing of the kind, which
-- this error tells; or what stands there nests too deep
pub data Found (A : Type 0) : Type 0 where
  Read : A → Left → Found A
  Fails : Fault → Found A
  Deep : Found A

abbrev pub Reading : Type 0 → Type 0
Reading A = Left → Found A

unfoldable pub then : {A B : Type 0} → Found A → (A → Reading B) → Found B
then (Read x rest) f = f x rest
then (Fails e) f = Fails e
then Deep f = Deep

infixl 10 ◌>>=◌
-- one thing, and then another
abbrev pub ◌>>=◌ : {A B : Type 0} → Reading A → (A → Reading B) → Reading B
p >>= f = λ ts. then (p ts) f

-- nothing, which means x
abbrev pub give : {A : Type 0} → A → Reading A
give x ts = Read x ts

-- the next token goes on nothing
abbrev pub fail : {A : Type 0} → Reading A
fail ts = Fails (failure ts)

abbrev pub nothing_if : Bool → Reading (Unit {0})
nothing_if true = give tt
nothing_if false = fail

-- nothing is left
unfoldable pub at_end : Reading (Unit {0})
at_end ts = nothing_if (is_end ts) ts

abbrev pub passed_if : Bool → Reading Bool
passed_if true ts = Read true (after ts)
passed_if false ts = Read false ts

-- whether this token comes next, which is passed
unfoldable pub passed : Tok → Reading Bool
passed t ts = passed_if (is_tok t (next ts)) ts

-- whether this token comes next
unfoldable pub seen : Tok → Reading Bool
seen t ts = Read (is_tok t (next ts)) ts

unfoldable pub choose : {A : Type 0} → Bool → Reading A → Reading A → Reading A
choose true p q = p
choose false p q = q

-- after this token the one, else the other
unfoldable pub where_next : {A : Type 0} → Tok → Reading A → Reading A → Reading A
where_next t p q = passed t >>= λ b. choose b p q

-- this token
unfoldable pub expected : Tok → Reading (Unit {0})
expected t = where_next t (give tt) fail

-- whether the text of a name is this one
abbrev pub is_word : List ℕ → Option (List ℕ) → Bool
is_word word None = false
is_word word (Some name) = bytes_eq name word

-- whether this name comes next, which is passed
unfoldable pub passed_word : List ℕ → Reading Bool
passed_word word ts = passed_if (is_word word (text_of kind.Id (next ts))) ts

-- this name
unfoldable pub expected_word : List ℕ → Reading (Unit {0})
expected_word word = passed_word word >>= λ b. choose b (give tt) fail

-- the place of the next token
unfoldable pub next_place : Reading ℕ
next_place ts = Read (place ts) ts

-- where the next token ends
unfoldable pub next_stop : Reading ℕ
next_stop ts = Read (stop ts) ts

-- the text of the next token, if it is of this kind; it isn't passed
unfoldable pub seen_text : Kind → Reading (Option (List ℕ))
seen_text k ts = Read (text_of k (next ts)) ts

abbrev pub taken_if : Option (List ℕ) → Reading (Option (List ℕ))
taken_if (Some text) ts = Read (Some text) (after ts)
taken_if None ts = Read None ts

-- the text of the next token, if it is of this kind
unfoldable pub taken : Kind → Reading (Option (List ℕ))
taken k ts = taken_if (text_of k (next ts)) ts

-- the same, where that is allowed
unfoldable pub taken_where : Bool → Kind → Reading (Option (List ℕ))
taken_where allowed k = choose allowed (taken k) (give None)

abbrev pub needed : {A : Type 0} → Option A → Reading A
needed None = fail
needed (Some x) = give x

-- the text of a token of this kind
unfoldable pub text : Kind → Reading (List ℕ)
text k = taken k >>= needed

abbrev pub after_one : {A : Type 0} → Option A → Reading (List A) → Reading (List A)
after_one None rest = give []
after_one (Some x) rest = rest >>= λ xs. give (x ∷ xs)

-- things, each of which the step finds, up to where it finds none; at most so many
abbrev pub many : {A : Type 0} → ℕ → Reading (Option A) → Reading (List A)
many zero step = fail
many (suc n) step = step >>= λ o. after_one o (many n step)

-- things, each of which the step finds with whether another one follows, as the lists that they are; at most
-- so many
abbrev pub chain : {A B : Type 0} → (A → List B) → ℕ → Reading (A × Bool) → Reading (List B)
chain list zero step = fail
chain list (suc n) step = step >>= λ p. choose p.1 (chain list n step >>= λ xs. give (list p.0 ++ xs)) (give (list p.0))

-- things, each of which the step finds, up to where it finds none
unfoldable pub repeated : {A : Type 0} → Reading (Option A) → Reading (List A)
repeated step ts = many (suc (size ts)) step ts

unfoldable pub chained_by : {A B : Type 0} → (A → List B) → Reading (A × Bool) → Reading (List B)
chained_by list step ts = chain list (suc (size ts)) step ts

-- things, each of which the step finds with whether another one follows
abbrev pub chained : {A : Type 0} → Reading (A × Bool) → Reading (List A)
chained step = chained_by (λ x. x ∷ []) step

-- the same of lists, which are joined
abbrev pub spread : {A : Type 0} → Reading (List A × Bool) → Reading (List A)
spread step = chained_by (λ xs. xs) step

-- after a thing in a list a `,` comes, which is passed, or the closer, which isn't
unfoldable pub separated : Tok → Reading (Unit {0})
separated closer = where_next Comma (give tt) (seen closer >>= λ b. choose b (give tt) fail)

-- the next of things between commas, or none where the closer comes, which is passed
abbrev pub listed : {A : Type 0} → Tok → Reading A → Reading (Option A)
listed closer one = where_next closer (give None) (one >>= λ x. separated closer >>= λ _. give (Some x))

-- a call failed as the reading does; want of memory says nothing
pub data FailsWith {A : Type 0} (found : Found A) : PlainError → Type 0 where
  fails_so : (e : ParseError ℕ Tok Error) → found ≡ Fails (fault_of e) → FailsWith found (Parse e)
  lacks_memory : FailsWith found Memory

-- this error, or want of memory
pub data IsError (e : Fault) : PlainError → Type 0 where
  same_error : (x : ParseError ℕ Tok Error) → fault_of x ≡ e → IsError e (Parse x)
  want_of_memory : IsError e Memory

-- a call answers what the reading finds, as `view` sees it
abbrev pub Answers : {A B : Type 0} → (A → B) → Found B → Result A PlainError → Left → Type 0
Answers view found (Ok x) rest = found ≡ Read (view x) rest
Answers view found (Err e) rest = FailsWith found e
