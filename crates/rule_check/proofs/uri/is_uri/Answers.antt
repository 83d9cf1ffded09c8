use Rattle.std.proofs.Common.{rules}
use Rattle.rule_check.specs.Uris.{IsScheme}
use Rattle.rule_check.proofs.UriLemmas.{uri_cut, uri_made, uri_none}
use Rattle.rule_check.proofs.uri.is_uri.Goals as goal

pub returns-then-is_scheme : goal.returns-then-is_scheme
returns-then-is_scheme c =
    let bytes = c.args.bytes.now in
    let front = c.in-Some.scheme.now in
    let back = c.in-Some.rest.now in
    let scheme : IsScheme front = c.is_scheme.ensures.0 (search rules) in (
      λ t. uri_made bytes front back c.in-Some.ensures.0 scheme (c.is_rest.ensures.0 t),
      λ u. c.is_rest.ensures.1 (uri_cut bytes front back c.in-Some.ensures.0 c.in-Some.ensures.1 u).1,
    )

pub returns-else-is_scheme : goal.returns-else-is_scheme
returns-else-is_scheme c =
    let bytes = c.args.bytes.now in
    let front = c.in-Some.scheme.now in
    let back = c.in-Some.rest.now in (
      λ t. cc (t, c.if-is_scheme.false),
      λ u. c.is_scheme.ensures.1 (uri_cut bytes front back c.in-Some.ensures.0 c.in-Some.ensures.1 u).0,
    )

pub returns-in-None : goal.returns-in-None
returns-in-None c = (λ t. cc, λ u. absurd (uri_none c.args.bytes.now c.in-None.ensures u))
