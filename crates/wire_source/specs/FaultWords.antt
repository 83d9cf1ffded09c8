-- How the troubles of a source are printed (this project's own).
use Rattle.std.specs.Prelude.{ℕ, List, codes}
use Rattle.enum_base.specs.Words.{fault_at}
use Rattle.dns_wire.specs.DecodeFaults.{decode_fault_words}
use Rattle.wire_source.specs.declared.trouble.Trouble.{Trouble}
use Rattle.wire_source.specs.declared.trouble.Trouble.TheVariants as trouble

-- the name of the innermost fault and its fields
abbrev pub trouble_words : Trouble → List ℕ
trouble_words trouble.LinkFault = codes "LinkFault"
trouble_words (trouble.BadReply fault) = decode_fault_words fault
trouble_words trouble.WrongReply = codes "WrongReply"
trouble_words (trouble.Server code) = fault_at (codes "Server") code
