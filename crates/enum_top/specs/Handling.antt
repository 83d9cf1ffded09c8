-- What a part of the work does to the objects of the outside (this project's own).
use Rattle.std.specs.Prelude.{◌≡◌, ◌+◌, ◌≤◌, max, None}
use Rattle.enum_base.specs.Causes.{Blames}
use Rattle.enum_base.specs.Loading.{AreTaken}
use Rattle.enum_base.specs.Outside.{ShelfState, SinkState, SourceState}
use Rattle.zone_text.specs.Zone.{most_bytes}
use Rattle.enum_top.specs.Inputs.{most_input}
use Rattle.enum_top.specs.declared.objects.Object.{Object}
use Rattle.enum_top.specs.declared.objects.Object.TheVariants.{Shelf, Input, Output}
use Rattle.enum_top.specs.declared.objects.Objects.{Objects}

-- a shelf was read: it tells the same files, and what it does not tell stays untold; it is blamed exactly where its count
-- rose; and of no file more than 64 MiB and 4,096 bytes were given
pub record ReadsShelf (old new : ShelfState) (Blamed : Type 0) : Type 0 where
  pub files : new.files ≡ old.files
  pub untold : old.files ≡ None → old.left ≡ None → new.left ≡ None
  pub blamed : Blames old.faults new.faults Blamed
  pub given : new.most_given ≤ max old.most_given (most_bytes + 4096)

-- an input was read: it is blamed exactly where its count rose; where it is not, at most 16 MiB and 4,096 bytes are taken
pub record ReadsInput (old new : SourceState) (Blamed : Type 0) : Type 0 where
  pub blamed : Blames old.faults new.faults Blamed
  pub taken : ¬ Blamed → AreTaken (most_input + 4096) old.left new.left

-- the lent objects are the same ones; shelf and input were read, and each is as it was where it is not used; the output is
-- blamed exactly where its count rose
pub record Handles {S I O : Type 0} (shelf_state : S → ShelfState) (input_state : I → SourceState) (out_state : O → SinkState)
    (Used Blamed : Object → Type 0) (old new : Objects S I O) : Type 0 where
  pub shelf : ReadsShelf (shelf_state old.shelf.now) (shelf_state new.shelf.now) (Blamed Shelf)
  pub input : ReadsInput (input_state old.input.now) (input_state new.input.now) (Blamed Input)
  pub output : Blames (out_state old.out.now).faults (out_state new.out.now).faults (Blamed Output)
  pub unused_shelf : ¬ Used Shelf → new.shelf.now ≡ old.shelf.now
  pub unused_input : ¬ Used Input → new.input.now ≡ old.input.now
  pub same_shelf : new.shelf.ghost_name ≡ old.shelf.ghost_name
  pub same_input : new.input.ghost_name ≡ old.input.ghost_name
  pub same_out : new.out.ghost_name ≡ old.out.ghost_name
