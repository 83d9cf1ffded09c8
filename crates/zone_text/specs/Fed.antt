-- What a reader was fed (this project's own).
use Rattle.std.specs.Prelude.{ℕ, List, drop, Option}
use Rattle.std.specs.List.{flat_map}
use Rattle.dns_name.specs.Name.{Labels}
use Rattle.zone_text.specs.declared.fault.TextFault.{TextFault}

-- the origin of a text, the text so far, and the fault that was told
pub record Fed : Type 0 where
  pub origin : Labels
  pub text : List ℕ
  pub fault : Option TextFault

-- the text that came in pieces, each told by what the reader held with it and the place at which it begins there
abbrev pub fed_text : List (List ℕ × ℕ) → List ℕ
fed_text pieces = flat_map (λ piece. drop piece.1 piece.0) pieces
