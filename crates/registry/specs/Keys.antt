-- The order of keys of sets (this project's own).
use Rattle.std.specs.Prelude.{ℕ, List}
use Rattle.std.specs.Cmp.{IsTotalOrder, nat_cmp_total, on_total, then_total}
use Rattle.std.specs.Cmp.Lexicographic.{nat_list_cmp_total, slice_cmp}
use Rattle.std.specs.Ordering.{nat_cmp, ordering_then}
use Rattle.std.specs.declared.cmp.Ordering.{Ordering}
use Rattle.dns_name.specs.Name.{wire_of}
use Rattle.registry.specs.declared.set_key.SetKey.{SetKey}

abbrev pub wire_in : SetKey → List ℕ
wire_in key = wire_of key.owner

abbrev pub kind_in : SetKey → ℕ
kind_in key = key.kind

-- by the wire form of the owner, and then by kind
abbrev pub key_order : SetKey → SetKey → Ordering
key_order one other = ordering_then (slice_cmp nat_cmp (wire_in one) (wire_in other)) (nat_cmp (kind_in one) (kind_in other))

pub key_total : IsTotalOrder key_order
key_total = then_total (on_total wire_in nat_list_cmp_total) (on_total kind_in nat_cmp_total)
