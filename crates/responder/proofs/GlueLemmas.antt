-- Addresses of servers, one server after another.
use Rattle.std.proofs.Common.{List, [], ◌∷◌, ◌++◌, refl, sym, ap, ◌∙◌, append_assoc}
use Rattle.std.proofs.lemmas.List.{append-nil}
use Rattle.dns_wire.specs.declared.record.Record.{Record}
use Rattle.zone_build.specs.Zone.{Zone}
use Rattle.zone_db.specs.Replies.{IsGlue}
use Rattle.responder.specs.Drafting.{AddsGlue}

-- the addresses of one more server
pub glue_more : (zone : Zone) (xs : List Record) (one : Record) (glue new : List Record) → IsGlue zone xs glue
    → AddsGlue zone one glue new → IsGlue zone (xs ++ one ∷ []) new
glue_more zone [] one glue new is adds = (
  adds.server,
  adds.adds.addresses,
  [],
  adds.tells,
  adds.adds.are,
  refl,
  adds.adds.grown ∙ ap (λ g. g ++ adds.adds.addresses) is ∙ sym (append-nil adds.adds.addresses),
)
glue_more zone (x ∷ xs) one glue new (server, first, rest, tells, are, is, parts) adds =
    let more : AddsGlue zone one rest (rest ++ adds.adds.addresses) = record {
      server = adds.server;
      tells = adds.tells;
      adds = record { addresses = adds.adds.addresses; are = adds.adds.are; grown = refl };
    } in (
      server,
      first,
      rest ++ adds.adds.addresses,
      tells,
      are,
      glue_more zone xs one rest (rest ++ adds.adds.addresses) is more,
      adds.adds.grown ∙ ap (λ g. g ++ adds.adds.addresses) parts ∙ append_assoc first rest adds.adds.addresses,
    )
