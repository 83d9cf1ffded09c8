use Rattle.std.proofs.Common.{◌&&◌, rules, tests, ◌==◌, ◌∙◌, sym, ap}
use Rattle.std.proofs.lemmas.Iterator.Search.{any_from_yields_List}
use Rattle.std.proofs.lemmas.Iterator.Splits.{YieldsList-from_slice_split}
use Rattle.service_field.specs.Fitting.{is_pair, offers, snaptr_serves}
use Rattle.service_field.specs.Services.{comma}
use Rattle.service_field.specs.Tags.{tags_of}
use Rattle.service_field.specs.Wanted.{wanted_text}
use Rattle.service_field.proofs.FitLemmas.{snaptr_serve_fits}
use Rattle.service_field.proofs.SplitLemmas.{any_of_map, cut}
use Rattle.service_field.proofs.fitting.fits_snaptr.Goals as goal

pub returns-in-List-clause-decided : goal.returns-in-List-clause-decided
returns-in-List-clause-decided c =
    any_from_yields_List (λ part. is_pair (tags_of part) && offers (tags_of part) c.args.services) _ _ c.any.result c.any.ensures.ran
    (YieldsList-from_slice_split _
    (λ b. b == comma) c.in-List.text.now c.split.ensures.rest c.split.ensures.done c.split.ensures.closure
    (λ x b q k. search (rules, tests)))
    (λ x b q k. search (rules, tests))
    ∙ sym (any_of_map (λ wanted. is_pair wanted && offers wanted c.args.services) tags_of (cut comma c.in-List.text.now))
    ∙ sym (ap (λ w. snaptr_serves (wanted_text w) c.args.services) c.in-List.is)

pub returns-in-List-clause-fits : goal.returns-in-List-clause-fits
returns-in-List-clause-fits c = snaptr_serve_fits (wanted_text c.args.wanted) c.args.services c.any.result (returns-in-List-clause-decided c)
