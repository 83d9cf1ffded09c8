-- How stages of work follow one another (this project's own).
use Rattle.std.specs.Prelude.{◌≡◌, Result, Ok, Err}

-- one stage goes, and then the next; or it stops, and that is the end
pub data Then {A B F : Type 0} (One : Result A F → Type 0) (Next : A → Result B F → Type 0) (result : Result B F) : Type 0 where
  goes : (value : A) → One (Ok value) → Next value result → Then One Next result
  stops : (fault : F) → One (Err fault) → result ≡ Err fault → Then One Next result
