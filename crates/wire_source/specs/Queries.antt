-- Queries for the rules at a name (RFC 1035, section 4.1; RFC 3403, section 4).
use Rattle.std.specs.Prelude.{ℕ, ◌^◌, List, [], ◌∷◌, true}
use Rattle.naptr_data.specs.Zones.{Labels}
use Rattle.dns_wire.specs.Encoding.{message_wire}
use Rattle.dns_wire.specs.Kinds.{internet, naptr}
use Rattle.dns_wire.specs.declared.message.Message.{Message}
use Rattle.dns_wire.specs.declared.question.Question.{Question}

-- the question for the rules at a name
abbrev pub question_for : Labels → Question
question_for name = record { name = name; kind = naptr; class = internet }

-- the query of that number: RD alone is set in its bits, and it has one question and no records
abbrev pub query_for : ℕ → Labels → Message
query_for id name = record {
  header = record { id = id; bits = 2 ^ 8 };
  questions = question_for name ∷ [];
  answers = [];
  authority = [];
  additional = [];
  counted = λ i. true;
}

-- .. as bytes
abbrev pub query_bytes : ℕ → Labels → List ℕ
query_bytes id name = message_wire (query_for id name)
