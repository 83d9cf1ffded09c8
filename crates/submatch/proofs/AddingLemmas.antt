-- What holds of a result implies what holds of it by another name.
use Rattle.std.proofs.Common.{Result, Ok, Err, IfOk}

pub map_ok : {T E : Type 0} (P Q : T → Type 0) (r : Result T E) → ((x : T) → P x → Q x) → IfOk r P → IfOk r Q
map_ok P Q (Ok x) there h = there x h
map_ok P Q (Err e) there h = h
