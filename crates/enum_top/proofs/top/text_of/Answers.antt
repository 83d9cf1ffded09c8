use Rattle.std.proofs.Common.{subst}
use Rattle.request_words.specs.Words.{Means, texts_of}
use Rattle.enum_top.proofs.DoesLemmas.{as_whole}
use Rattle.enum_top.proofs.top.text_of.Goals as goal

pub returns-in-Resolve-clause-does : goal.returns-in-Resolve-clause-does
returns-in-Resolve-clause-does g c =
    rw c.in-Resolve.is (record { does = as_whole c.resolve_text.ensures.does; early = c.resolve_text.ensures.early })

pub returns-in-Show-clause-does : goal.returns-in-Show-clause-does
returns-in-Show-clause-does g c =
    rw c.in-Show.is (record { does = as_whole c.show_text.ensures.does; early = λ cause none. absurd none })

pub resolve_text-requires : goal.resolve_text-requires
resolve_text-requires g c = record { few = c.few_apexes.ensures _ _ (subst (Means (texts_of c.args.words.now)) c.in-Resolve.is c.requires) }
