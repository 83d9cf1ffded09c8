-- The client that the functions below `walk` are handed.
use Rattle.service_field.specs.Applications.{Meaning}
use Rattle.service_field.specs.Wanted.{wanted_text}
use Rattle.ddds_walk.specs.Rules.{Client, client_of}
use Rattle.ddds_walk.specs.declared.client.Client as src

-- a client in the words of the definitions, by what its application makes of flags and services
abbrev pub meant : {P : Type 0} → (P → Meaning) → src.Client P → Client
meant meaning client = client_of (meaning client.app.now) (wanted_text client.wanted) client.aus.now
