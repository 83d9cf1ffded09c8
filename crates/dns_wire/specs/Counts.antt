-- How many items a message has (RFC 1035, section 4.1.1).
use Rattle.std.specs.Prelude.{List, length, Bool, ◌&&◌, nat_le}
use Rattle.dns_wire.specs.declared.question.Question.{Question}
use Rattle.dns_wire.specs.declared.record.Record.{Record}

-- the number of items fits the 16 bits of a count
abbrev pub is_counted : {A : Type 0} → List A → Bool
is_counted items = nat_le (length items) 65_535

-- each of a message's lists can be counted
abbrev pub are_counted : List Question → List Record → List Record → List Record → Bool
are_counted questions answers authority additional = is_counted questions && is_counted answers && is_counted authority && is_counted additional
