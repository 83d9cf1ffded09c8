use Rattle.std.proofs.Common.{◌∙◌}
use Rattle.enum_top.proofs.InquiryLemmas.{domain_wants_none, domain_whole, no_domain}
use Rattle.enum_top.proofs.inquiry.ask_domain.Goals as goal

pub returns-in-Err : goal.returns-in-Err
returns-in-Err c = λ apexes. no_domain _ _ c.requires _ _ apexes _ (c.as_bytes.ensures.value ∙ c.text_at.ensures) _ c.in-Err.ensures.fault

pub returns-in-Err-read_wanted : goal.returns-in-Err-read_wanted
returns-in-Err-read_wanted c =
    λ apexes. domain_wants_none _ _ c.requires _ _ apexes _ (c.as_bytes.ensures.value ∙ c.text_at.ensures) _ c.in-Ok.ensures.fault c.in-Err-read_wanted.ensures

pub returns : goal.returns
returns c =
    λ apexes. domain_whole _ _ c.requires _ _ apexes _
    (c.as_bytes.ensures.value
    ∙ c.text_at.ensures) _ _ _ _ _ c.in-Ok.ensures.fault c.in-Ok.ensures.text c.in-Ok-read_wanted.ensures
    c.aus.ensures.value c.key.ensures c.one.ensures
