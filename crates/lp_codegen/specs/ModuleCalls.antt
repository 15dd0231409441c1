-- How a call that writes a module around a body goes on and ends.
use Rattle.std.specs.Prelude.{◌≡◌, ℕ, ◌⊎◌, List, [], ◌∷◌, map, codes, Result, Ok, Err}
use Rattle.lp_write.specs.Lines.Line.{line}
use Rattle.lp_write.specs.Sinks.{Told}
use Rattle.lp_write.specs.Writes.{Ending, writing, Writes, error_ending, write_ending}
use Rattle.lp_write.specs.Writes.Ending.{complete}
use Rattle.lp_write.specs.declared.rust.WriteError.{WriteError}
use Rattle.lp_codegen.specs.Generators.{head_lines}
use Rattle.lp_codegen.specs.declared.generator.CodeGenerator.{CodeGenerator}

module _ {W C : Type 0} (told : W → Told) where
  -- the call that was to append these lines ended so, and else the generator is as it was
  pub record Prints (ending : Ending) (old new : CodeGenerator W C) (lines : List (List ℕ)) : Type 0 where
    pub appends : Writes ending (writing told old.out.now) (writing told new.out.now) (map line lines)
    pub same_reference : new.out.ghost_name ≡ old.out.ghost_name
    pub kept : new ≡ record old { out = new.out }

  -- the lines before those of the body are written
  abbrev pub IsOpened : CodeGenerator W C → CodeGenerator W C → Type 0
  IsOpened old new = Prints complete old new (head_lines old)

  -- after the body: its refusal is handed on as it is, else the last line follows
  abbrev pub Closes : Result (Unit {0}) WriteError → CodeGenerator W C → CodeGenerator W C → Result (Unit {0}) WriteError → Type 0
  Closes (Ok done) after new result = Prints (write_ending result) after new (codes "}" ∷ [])
  Closes (Err error) after new result = (result ≡ Err error) × (new ≡ after)

  -- the lines before those of the body were not written whole
  pub record Stops (old new : CodeGenerator W C) (result : Result (Unit {0}) WriteError) : Type 0 where
    pub error : WriteError
    pub refused : result ≡ Err error
    pub opening : Prints (error_ending error) old new (head_lines old)

  -- they were; then the body ran, and then the module was closed
  pub record Runs (Returns : CodeGenerator W C → Result (Unit {0}) WriteError → CodeGenerator W C → Type 0)
      (old new : CodeGenerator W C) (result : Result (Unit {0}) WriteError) : Type 0 where
    pub opened : CodeGenerator W C
    pub answer : Result (Unit {0}) WriteError
    pub after : CodeGenerator W C
    pub opening : IsOpened old opened
    pub body : Returns opened answer after
    pub closing : Closes answer after new result

  -- the one or the other, where the body returns so
  abbrev pub WritesModule : (CodeGenerator W C → Result (Unit {0}) WriteError → CodeGenerator W C → Type 0) →
      CodeGenerator W C → CodeGenerator W C → Result (Unit {0}) WriteError → Type 0
  WritesModule Returns old new result = Stops old new result ⊎ Runs Returns old new result
