use Rattle.std.proofs.Common.{◌∙◌}
use Rattle.enum_top.proofs.InquiryLemmas.{asked_whole, no_key, no_string, no_want}
use Rattle.enum_top.proofs.inquiry.ask_number.Goals as goal

pub returns-in-Err : goal.returns-in-Err
returns-in-Err c = no_string _ _ _ _ _ (c.as_bytes.ensures.value ∙ c.text_at.ensures) _ c.in-Err.ensures.string

pub returns-in-Err-read_wanted : goal.returns-in-Err-read_wanted
returns-in-Err-read_wanted c =
    no_want _ _ _ _ _ (c.as_bytes.ensures.value ∙ c.text_at.ensures) _ _ c.in-Ok.ensures.string c.in-Err-read_wanted.ensures

pub returns-in-Err-read_keys : goal.returns-in-Err-read_keys
returns-in-Err-read_keys c =
    no_key _ _ _ _ _ (c.as_bytes.ensures.value
    ∙ c.text_at.ensures) _ _ _ _ c.in-Ok.ensures.string c.in-Ok.ensures.digits c.in-Ok-read_wanted.ensures
    c.in-Err-read_keys.ensures

pub returns : goal.returns
returns c =
    asked_whole _ _ _ _ _ (c.as_bytes.ensures.value
    ∙ c.text_at.ensures) _ _ _ _ _ c.in-Ok.ensures.string c.in-Ok.ensures.digits c.in-Ok-read_wanted.ensures
    c.in-Ok-read_keys.ensures c.aus.ensures.value
