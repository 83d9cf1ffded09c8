use Rattle.dns_name.specs.Text.{labels_lent}
use Rattle.dns_name.proofs.NameLemmas.{AreBytes-fits}
use Rattle.dns_name.proofs.TextLawLemmas.{accepted-iff, empty_label-iff, long_label-iff, bad_escape-iff, no_origin-iff, too_long-iff, at_result}
use Rattle.dns_name.proofs.name.Name.from_text.Goals as goal

pub returns-clause-accepted : goal.returns-clause-accepted
returns-clause-accepted c =
    let text = c.args.text.now in
    let origin = labels_lent c.args.origin in
    let all = AreBytes-fits text c.type_inv.text in
    λ labels. at_result _ _ _ _ c.parse.ensures (accepted-iff text origin all labels)

pub returns-clause-empty_label : goal.returns-clause-empty_label
returns-clause-empty_label c =
    let text = c.args.text.now in
    let origin = labels_lent c.args.origin in
    let all = AreBytes-fits text c.type_inv.text in
    λ at. at_result _ _ _ _ c.parse.ensures (empty_label-iff text origin all at)

pub returns-clause-label_too_long : goal.returns-clause-label_too_long
returns-clause-label_too_long c =
    let text = c.args.text.now in
    let origin = labels_lent c.args.origin in
    let all = AreBytes-fits text c.type_inv.text in
    λ at. at_result _ _ _ _ c.parse.ensures (long_label-iff text origin all at)

pub returns-clause-bad_escape : goal.returns-clause-bad_escape
returns-clause-bad_escape c =
    let text = c.args.text.now in
    let origin = labels_lent c.args.origin in
    let all = AreBytes-fits text c.type_inv.text in
    λ at. at_result _ _ _ _ c.parse.ensures (bad_escape-iff text origin all at)

pub returns-clause-no_origin : goal.returns-clause-no_origin
returns-clause-no_origin c =
    let text = c.args.text.now in
    let origin = labels_lent c.args.origin in
    let all = AreBytes-fits text c.type_inv.text in
    at_result _ _ _ _ c.parse.ensures (no_origin-iff text origin all)

pub returns-clause-name_too_long : goal.returns-clause-name_too_long
returns-clause-name_too_long c =
    let text = c.args.text.now in
    let origin = labels_lent c.args.origin in
    let all = AreBytes-fits text c.type_inv.text in
    at_result _ _ _ _ c.parse.ensures (too_long-iff text origin all)
