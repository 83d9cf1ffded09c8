-- The names of the reasons why an entry is broken (this project's own).
use Rattle.std.specs.Prelude.{ℕ, List, codes}
use Rattle.zone_token.specs.declared.fault.TextWhy.{TextWhy}
use Rattle.zone_token.specs.declared.fault.TextWhy.TheVariants.{BadToken, OpenQuote, OpenParen, BadName, BadTtl, NoTtl}
use Rattle.zone_token.specs.declared.fault.TextWhy.TheVariants.{UnknownType, UnknownDirective, BadData, NoOwner}
use Rattle.zone_token.specs.declared.fault.TextWhy.TheVariants.{WrongClass, TooMany, TooLarge, Memory}

-- the name of a reason
abbrev pub name_of : TextWhy → List ℕ
name_of BadToken = codes "BadToken"
name_of OpenQuote = codes "OpenQuote"
name_of OpenParen = codes "OpenParen"
name_of BadName = codes "BadName"
name_of BadTtl = codes "BadTtl"
name_of NoTtl = codes "NoTtl"
name_of UnknownType = codes "UnknownType"
name_of UnknownDirective = codes "UnknownDirective"
name_of BadData = codes "BadData"
name_of NoOwner = codes "NoOwner"
name_of WrongClass = codes "WrongClass"
name_of TooMany = codes "TooMany"
name_of TooLarge = codes "TooLarge"
name_of Memory = codes "Memory"
