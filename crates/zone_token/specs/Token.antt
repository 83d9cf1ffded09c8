-- A token of an entry (RFC 1035, section 5.1).
use Rattle.std.specs.Prelude.{ℕ, List, Bool}

-- a token: its bytes, without the quotation marks around a quoted one
pub record Token : Type 0 where
  pub quoted : Bool
  pub text : List ℕ
