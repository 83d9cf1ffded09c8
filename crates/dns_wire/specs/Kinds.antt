-- Kinds of records, and the content that belongs to them (RFC 1035, section 3.2.2; RFC 3596, 2782, 3403, 6891). That other
-- content stays as it stands is this project's own.
use Rattle.std.specs.Prelude.{ℕ, List, length, Bool, true, false, ◌==◌, ◌&&◌, ◌||◌, not, nat_lt, nat_le, if◌then◌else◌, codes, Option, Some, None}
use Rattle.dns_wire.specs.declared.content.Content.{Content}
use Rattle.dns_wire.specs.declared.content.Content.TheVariants as content

-- the class of the internet (RFC 1035, 3.2.4)
abbrev pub internet : ℕ
internet = 1

-- the numbers of the kinds (RFC 1035, 3.2.2; RFC 3596, 2.1; RFC 2782; RFC 3403, 4.1; RFC 6891, 6.1.1)
abbrev pub a : ℕ
a = 1

abbrev pub ns : ℕ
ns = 2

abbrev pub cname : ℕ
cname = 5

abbrev pub soa : ℕ
soa = 6

abbrev pub ptr : ℕ
ptr = 12

abbrev pub mx : ℕ
mx = 15

abbrev pub txt : ℕ
txt = 16

abbrev pub aaaa : ℕ
aaaa = 28

abbrev pub srv : ℕ
srv = 33

abbrev pub naptr : ℕ
naptr = 35

abbrev pub opt : ℕ
opt = 41

-- all types, in questions alone (RFC 1035, 3.2.3)
abbrev pub any : ℕ
any = 255

-- the names of the types whose content is read, and of options (RFC 1035, 3.2.2; RFC 3596, 2.1; RFC 2782; RFC 3403, 4.1; RFC 6891,
-- 6.1.1)
abbrev pub kind_word : ℕ → Option (List ℕ)
kind_word kind =
    if kind == a then Some (codes "A")
    else if kind == ns then Some (codes "NS")
    else if kind == cname then Some (codes "CNAME")
    else if kind == soa then Some (codes "SOA")
    else if kind == ptr then Some (codes "PTR")
    else if kind == mx then Some (codes "MX")
    else if kind == txt then Some (codes "TXT")
    else if kind == aaaa then Some (codes "AAAA")
    else if kind == srv then Some (codes "SRV")
    else if kind == naptr then Some (codes "NAPTR")
    else if kind == opt then Some (codes "OPT")
    else None

-- the kinds whose content is read in the class of the internet
abbrev pub is_read : ℕ → Bool
is_read kind =
    kind == a || kind == ns || kind == cname || kind == soa || kind == ptr || kind == mx || kind == txt || kind == aaaa
    || kind == srv || kind == naptr

-- the bytes fit one RDATA (RFC 1035, 3.2.1)
abbrev pub fits_rdata : List ℕ → Bool
fits_rdata bytes = nat_le (length bytes) 65_535

-- the content belongs to the kind and the class
abbrev pub belongs : ℕ → ℕ → Content → Bool
belongs kind class (content.A address) = kind == a && class == internet
belongs kind class (content.Ns server) = kind == ns && class == internet
belongs kind class (content.Cname target) = kind == cname && class == internet
belongs kind class (content.Soa fields) = kind == soa && class == internet
belongs kind class (content.Ptr name) = kind == ptr && class == internet
belongs kind class (content.Mx preference exchange) = kind == mx && class == internet
belongs kind class (content.Txt texts) = kind == txt && class == internet && nat_lt 0 (length texts)
belongs kind class (content.Aaaa address) = kind == aaaa && class == internet
belongs kind class (content.Srv priority weight port target) = kind == srv && class == internet
belongs kind class (content.Naptr rule) = kind == naptr && class == internet
belongs kind class (content.Opt options) = kind == opt && fits_rdata options
belongs kind class (content.Raw bytes) = not (kind == opt) && not (class == internet && is_read kind) && fits_rdata bytes

-- the kind of content that is read; of options it is theirs, and bytes as they stand belong to many kinds
abbrev pub kind_of : Content → ℕ
kind_of (content.A address) = a
kind_of (content.Ns server) = ns
kind_of (content.Cname target) = cname
kind_of (content.Soa fields) = soa
kind_of (content.Ptr name) = ptr
kind_of (content.Mx preference exchange) = mx
kind_of (content.Txt texts) = txt
kind_of (content.Aaaa address) = aaaa
kind_of (content.Srv priority weight port target) = srv
kind_of (content.Naptr rule) = naptr
kind_of (content.Opt options) = opt
kind_of (content.Raw bytes) = 0

-- content of one of the ten kinds, with a text where there are texts
abbrev pub is_whole : Content → Bool
is_whole (content.A address) = true
is_whole (content.Ns server) = true
is_whole (content.Cname target) = true
is_whole (content.Soa fields) = true
is_whole (content.Ptr name) = true
is_whole (content.Mx preference exchange) = true
is_whole (content.Txt texts) = nat_lt 0 (length texts)
is_whole (content.Aaaa address) = true
is_whole (content.Srv priority weight port target) = true
is_whole (content.Naptr rule) = true
is_whole (content.Opt options) = false
is_whole (content.Raw bytes) = false
