-- What was done to the objects.
use Rattle.std.proofs.Common.{◌≡◌, ℕ, List, Option, Some, None, Ok, Err, refl, sym, subst, ◌∙◌, arith}
use Rattle.enum_base.specs.Causes.{Blames, HasCause}
use Rattle.enum_base.specs.Loading.{AreTaken}
use Rattle.enum_base.specs.Outside.{ShelfState, SinkState, SourceState}
use Rattle.enum_base.specs.declared.fault.Failed.{Failed}
use Rattle.enum_top.specs.Handling.{Handles, ReadsInput, ReadsShelf}
use Rattle.enum_top.specs.declared.objects.Object.{Object}
use Rattle.enum_top.specs.declared.objects.Object.TheVariants.{Shelf, Input, Output}
use Rattle.enum_top.specs.declared.objects.Objects.{Objects}

-- an object that is not touched is not blamed
idle : (count : ℕ) (Blamed : Type 0) → (Blamed → ⊥) → Blames count count Blamed
idle count Blamed none = record {
  later = omega arith;
  only = λ b. absurd (none b);
  always = λ less. absurd (omega arith);
}

pub idle_shelf : (shelf : ShelfState) (Blamed : Type 0) → (Blamed → ⊥) → ReadsShelf shelf shelf Blamed
idle_shelf shelf Blamed none = record { files = refl; untold = λ files left. left; blamed = idle shelf.faults Blamed none; given = omega arith }

none_taken : (most : ℕ) (left : Option (List ℕ)) → AreTaken most left left
none_taken most None = (0, omega arith, refl)
none_taken most (Some bytes) = (0, omega arith, refl)

idle_input : (input : SourceState) (Blamed : Type 0) → (Blamed → ⊥) → ReadsInput input input Blamed
idle_input input Blamed none = record { blamed = idle input.faults Blamed none; taken = λ calm. none_taken _ input.left }

-- the same blame, said otherwise
module _ (Blamed Blamed' : Type 0) (to : Blamed → Blamed') (from : Blamed' → Blamed) where
  blames_as : (before now : ℕ) → Blames before now Blamed → Blames before now Blamed'
  blames_as before now b = record { later = b.later; only = λ x. b.only (from x); always = λ less. to (b.always less) }

  pub shelf_as : (old new : ShelfState) → ReadsShelf old new Blamed → ReadsShelf old new Blamed'
  shelf_as old new r = record { files = r.files; untold = r.untold; blamed = blames_as old.faults new.faults r.blamed; given = r.given }

  input_as : (old new : SourceState) → ReadsInput old new Blamed → ReadsInput old new Blamed'
  input_as old new r = record { blamed = blames_as old.faults new.faults r.blamed; taken = λ calm. r.taken (λ x. calm (to x)) }

-- a call is blamed exactly where it failed
pub blames_call : {T : Type 0} (before now : ℕ) (value : T) (Blamed : Type 0) → (Blamed → ⊥)
    → HasCause {T = T} {E = Failed} before now (Ok value) → Blames before now Blamed
blames_call before now value Blamed none h =
    let same = h.kept in record { later = h.later; only = λ b. absurd (none b); always = λ less. absurd (omega (arith, same, less)) }

pub blames_failed : {T : Type 0} (before now : ℕ) (fault : Failed) (Blamed : Type 0) → Blamed
    → HasCause {T = T} {E = Failed} before now (Err fault) → Blames before now Blamed
blames_failed before now fault Blamed blamed h = record { later = h.later; only = λ b. h.failed; always = λ less. blamed }

module _ {S I O : Type 0} (of_shelf : S → ShelfState) (of_input : I → SourceState) (of_out : O → SinkState) where
  -- more objects may be used, and the blame may be said otherwise
  pub handles_as : (Used Used' Blamed Blamed' : Object → Type 0) (old new : Objects S I O)
      → ((object : Object) → Used object → Used' object) → ((object : Object) → Blamed object → Blamed' object)
      → ((object : Object) → Blamed' object → Blamed object) → Handles of_shelf of_input of_out Used Blamed old new
      → Handles of_shelf of_input of_out Used' Blamed' old new
  handles_as Used Used' Blamed Blamed' old new uses to from h = record {
    shelf = shelf_as (Blamed Shelf) (Blamed' Shelf) (to Shelf) (from Shelf) _ _ h.shelf;
    input = input_as (Blamed Input) (Blamed' Input) (to Input) (from Input) _ _ h.input;
    output = blames_as (Blamed Output) (Blamed' Output) (to Output) (from Output) _ _ h.output;
    unused_shelf = λ unused. h.unused_shelf (λ u. unused (uses Shelf u));
    unused_input = λ unused. h.unused_input (λ u. unused (uses Input u));
    same_shelf = h.same_shelf;
    same_input = h.same_input;
    same_out = h.same_out;
  }

  -- the shelf alone was read
  pub shelf_alone : (Used Blamed : Object → Type 0) (old new : Objects S I O) → Used Shelf → (Used Input → ⊥)
      → (Used Output → ⊥) → ((object : Object) → Blamed object → Used object)
      → ReadsShelf (of_shelf old.shelf.now) (of_shelf new.shelf.now) (Blamed Shelf) → new.input.now ≡ old.input.now
      → new.out.now ≡ old.out.now → new.shelf.ghost_name ≡ old.shelf.ghost_name
      → new.input.ghost_name ≡ old.input.ghost_name → new.out.ghost_name ≡ old.out.ghost_name
      → Handles of_shelf of_input of_out Used Blamed old new
  shelf_alone Used Blamed old new used no_input no_output blamed reads input out same_shelf same_input same_out = record {
    shelf = reads;
    input = subst (λ (x : I). ReadsInput (of_input old.input.now) (of_input x) (Blamed Input)) (sym input)
        (idle_input (of_input old.input.now) (Blamed Input) (λ b. no_input (blamed Input b)));
    output = subst (λ (x : O). Blames (of_out old.out.now).faults (of_out x).faults (Blamed Output)) (sym out)
        (idle (of_out old.out.now).faults (Blamed Output) (λ b. no_output (blamed Output b)));
    unused_shelf = λ unused. absurd (unused used);
    unused_input = λ unused. input;
    same_shelf = same_shelf;
    same_input = same_input;
    same_out = same_out;
  }

  -- the input alone was read
  pub input_alone : (Used Blamed : Object → Type 0) (old new : Objects S I O) → Used Input → (Used Shelf → ⊥)
      → (Used Output → ⊥) → ((object : Object) → Blamed object → Used object)
      → ReadsInput (of_input old.input.now) (of_input new.input.now) (Blamed Input) → new.shelf.now ≡ old.shelf.now
      → new.out.now ≡ old.out.now → new.shelf.ghost_name ≡ old.shelf.ghost_name
      → new.input.ghost_name ≡ old.input.ghost_name → new.out.ghost_name ≡ old.out.ghost_name
      → Handles of_shelf of_input of_out Used Blamed old new
  input_alone Used Blamed old new used no_shelf no_output blamed reads shelf out same_shelf same_input same_out = record {
    shelf = subst (λ (x : S). ReadsShelf (of_shelf old.shelf.now) (of_shelf x) (Blamed Shelf)) (sym shelf)
        (idle_shelf (of_shelf old.shelf.now) (Blamed Shelf) (λ b. no_shelf (blamed Shelf b)));
    input = reads;
    output = subst (λ (x : O). Blames (of_out old.out.now).faults (of_out x).faults (Blamed Output)) (sym out)
        (idle (of_out old.out.now).faults (Blamed Output) (λ b. no_output (blamed Output b)));
    unused_shelf = λ unused. shelf;
    unused_input = λ unused. absurd (unused used);
    same_shelf = same_shelf;
    same_input = same_input;
    same_out = same_out;
  }

  -- no object was used
  pub none_used : (Used Blamed : Object → Type 0) (objects : Objects S I O) → ((object : Object) → Blamed object → ⊥)
      → Handles of_shelf of_input of_out Used Blamed objects objects
  none_used Used Blamed objects none = record {
    shelf = idle_shelf (of_shelf objects.shelf.now) (Blamed Shelf) (none Shelf);
    input = idle_input (of_input objects.input.now) (Blamed Input) (none Input);
    output = idle (of_out objects.out.now).faults (Blamed Output) (none Output);
    unused_shelf = λ unused. refl;
    unused_input = λ unused. refl;
    same_shelf = refl;
    same_input = refl;
    same_out = refl;
  }

  -- the work was done, and the output was written
  pub output_written : (Used Blamed Blamed' : Object → Type 0) (old between new : Objects S I O)
      → Handles of_shelf of_input of_out Used Blamed old between → ((object : Object) → Blamed object → ⊥)
      → (Blamed' Shelf → ⊥) → (Blamed' Input → ⊥) → between.out.now ≡ old.out.now → new.shelf.now ≡ between.shelf.now
      → new.input.now ≡ between.input.now → new.shelf.ghost_name ≡ between.shelf.ghost_name
      → new.input.ghost_name ≡ between.input.ghost_name → new.out.ghost_name ≡ between.out.ghost_name
      → Blames (of_out between.out.now).faults (of_out new.out.now).faults (Blamed' Output)
      → Handles of_shelf of_input of_out Used Blamed' old new
  output_written Used Blamed Blamed' old between new h none no_shelf no_input unwritten shelf input same_shelf same_input same_out b = record {
    shelf = subst (λ (x : S). ReadsShelf (of_shelf old.shelf.now) (of_shelf x) (Blamed' Shelf)) (sym shelf)
        (shelf_as (Blamed Shelf) (Blamed' Shelf) (λ x. absurd (none Shelf x)) (λ x. absurd (no_shelf x)) _ _ h.shelf);
    input = subst (λ (x : I). ReadsInput (of_input old.input.now) (of_input x) (Blamed' Input)) (sym input)
        (input_as (Blamed Input) (Blamed' Input) (λ x. absurd (none Input x)) (λ x. absurd (no_input x)) _ _ h.input);
    output = subst (λ (x : O). Blames (of_out x).faults (of_out new.out.now).faults (Blamed' Output)) unwritten b;
    unused_shelf = λ unused. shelf ∙ h.unused_shelf unused;
    unused_input = λ unused. input ∙ h.unused_input unused;
    same_shelf = same_shelf ∙ h.same_shelf;
    same_input = same_input ∙ h.same_input;
    same_out = same_out ∙ h.same_out;
  }
