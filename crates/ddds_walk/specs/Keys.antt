-- Domains as keys of a set, for the functions below `walk`.
use Rattle.std.specs.Prelude.{ℕ, List}
use Rattle.dns_name.specs.Name.{wire_of}
use Rattle.ddds_walk.specs.declared.domain.Domain.{Domain}

-- the wire form of a domain
abbrev pub wire_in : Domain → List ℕ
wire_in d = wire_of d.name
