-- How RDATA is read, by kind and class (RFC 1035, section 3.3; RFC 3596, 2782, 3403, 6891). That kinds are read in the class of
-- the internet alone is this project's own.
use Rattle.std.specs.Prelude.{ℕ, ◌==◌, if◌then◌else◌}
use Rattle.dns_wire.specs.Kinds.{internet, a, ns, cname, soa, ptr, mx, txt, aaaa, srv, naptr, opt}
use Rattle.dns_wire.specs.declared.form.Form.{Form}
use Rattle.dns_wire.specs.declared.form.Form.TheVariants as form

-- the form of RDATA in the class of the internet
abbrev pub internet_form : ℕ → Form
internet_form kind =
    if kind == a then form.A else
    if kind == ns then form.Ns else
    if kind == cname then form.Cname else
    if kind == soa then form.Soa else
    if kind == ptr then form.Ptr else
    if kind == mx then form.Mx else
    if kind == txt then form.Txt else
    if kind == aaaa then form.Aaaa else
    if kind == srv then form.Srv else
    if kind == naptr then form.Naptr else form.Raw

-- the form of a record's RDATA: options have theirs in every class
abbrev pub form_of : ℕ → ℕ → Form
form_of kind class = if kind == opt then form.Opt else if class == internet then internet_form kind else form.Raw
