-- The files that the words name come to valid zones, or to a cause.
use Rattle.std.proofs.Common.{◌≡◌, ◌≢◌, ◌⊎◌, inl, inr, ℕ, List, [], ◌∷◌, ◌++◌, Option, Some, None, Ok, Err, refl, sym, subst}
use Rattle.std.specs.Prelude.{Contains}
use Rattle.std.specs.List.{AllByRecursion}
use Rattle.dns_name.proofs.NameLemmas.{AllByRecursion-append}
use Rattle.dns_wire.specs.declared.record.Record.{Record}
use Rattle.enum_base.proofs.StageLemmas.{IsTotal, IsTotal-is, IsTotal-then}
use Rattle.enum_base.specs.Outside.{File, file_of}
use Rattle.enum_base.specs.Stages.Then.{goes, stops}
use Rattle.naptr_data.specs.Zones.{Labels}
use Rattle.request_words.specs.Words.{text_at}
use Rattle.zone_build.specs.Built.{IsBuilt}
use Rattle.zone_build.specs.Faults.{IsZoneFault}
use Rattle.zone_build.specs.Laws.{RecordsMakeAZoneOrHaveAFault}
use Rattle.zone_db.specs.Laws.{ZonesFitOrHaveAnAddFault}
use Rattle.zone_db.specs.Sets.{HoldsApex, IsAddFault, IsFull}
use Rattle.zone_build.specs.Zone.{IsPlain, IsValid, Zone}
use Rattle.zone_db.specs.declared.fault.AddFault.{AddFault}
use Rattle.zone_db.specs.declared.fault.AddFault.TheVariants as add
use Rattle.zone_build.specs.declared.fault.ZoneFault.{ZoneFault}
use Rattle.zone_build.specs.declared.fault.ZoneFault.TheVariants as fault
use Rattle.zone_text.specs.Zone.{ZoneBreaks, ZoneSays}
use Rattle.zone_token.specs.declared.fault.TextWhy.{TextWhy}
use Rattle.enum_top.specs.ZoneFiles.{Adds, Builds, Files, NextZone, TextAt, Texts, ZoneAt, ZonesFrom, found}
use Rattle.enum_top.specs.declared.cause.Cause.TheVariants as cause
use Rattle.enum_top.proofs.FileLemmas.{plain_at}

-- the laws by which texts say records, records make zones, and zones go together, or a fault tells why not
pub record AreTotal : Type 0 where
  pub text : (text : List ℕ) (origin : Labels) → ((records : List Record) × ZoneSays text origin records)
      ⊎ ((line : ℕ) × (why : TextWhy) × ZoneBreaks text origin line why)
  pub zone : RecordsMakeAZoneOrHaveAFault
  pub set : ZonesFitOrHaveAnAddFault

IsTotal-files : (files : Option (List File)) (words : List (List ℕ)) (place : ℕ) → IsTotal (Files files words place)
IsTotal-files (Some files) words place = IsTotal-is (found place (file_of files (text_at words place)))
IsTotal-files None words place = record { result = found place None; comes = (None, refl) }

module _ (laws : AreTotal) where
  IsTotal-texts : (place : ℕ) (bytes : List ℕ) → IsTotal (Texts place bytes)
  IsTotal-texts place bytes = by (laws.text bytes [])
    where
      by : ((records : List Record) × ZoneSays bytes [] records) ⊎ ((line : ℕ) × (why : TextWhy) × ZoneBreaks bytes [] line why) → IsTotal (Texts place bytes)
      by (inl (records, says)) = record { result = Ok records; comes = inl (records, says, refl) }
      by (inr (line, why, breaks)) = record {
        result = Err (cause.Text place (record { line = line; why = why }));
        comes = inr (record { line = line; why = why }, breaks, refl);
      }

  IsTotal-builds : (place : ℕ) (records : List Record) → ((one : Record) → Contains records one → IsPlain one) → IsTotal (Builds place records)
  IsTotal-builds place records plain = by (laws.zone records plain)
    where
      by : ((zone : Zone) × IsBuilt records zone × IsValid zone)
          ⊎ ((f : ZoneFault) × (f ≢ fault.Memory) × IsZoneFault records f) → IsTotal (Builds place records)
      by (inl (zone, built, valid)) = record { result = Ok zone; comes = inl (zone, built, valid, refl) }
      by (inr (f, known, is)) = record { result = Err (cause.Zone place f); comes = inr (f, is, known, refl) }

  IsTotal-adds : (place : ℕ) (zones : List Zone) (zone : Zone) → IsTotal (Adds place zones zone)
  IsTotal-adds place zones zone = by (laws.set zones zone)
    where
      by : (¬ HoldsApex zones zone.apex × ¬ IsFull zones zone) ⊎ ((f : AddFault) × (f ≢ add.Memory) × IsAddFault zones zone f) → IsTotal (Adds place zones zone)
      by (inl (apart, fits)) = record { result = Ok (zones ++ zone ∷ []); comes = inl (apart, fits, refl) }
      by (inr (f, known, is)) = record { result = Err (cause.Set place f); comes = inr (f, is, known, refl) }

  module _ (files : Option (List File)) (words : List (List ℕ)) where
    IsTotal-text : (place : ℕ) → IsTotal (TextAt files words place)
    IsTotal-text place = IsTotal-then _ _ (IsTotal-files files words place) (λ bytes read. IsTotal-texts place bytes)

    IsTotal-zone : (place : ℕ) → IsTotal (ZoneAt files words place)
    IsTotal-zone place =
        IsTotal-then _ _ (IsTotal-text place) (λ records said. IsTotal-builds place records (plain_at files words place records said))

    IsTotal-next : (zones : List Zone) (place : ℕ) → IsTotal (NextZone files words zones place)
    IsTotal-next zones place = IsTotal-then _ _ (IsTotal-zone place) (λ zone built. IsTotal-adds place zones zone)

    pub IsTotal-zones : (zones : List Zone) (places : List ℕ) → IsTotal (ZonesFrom files words zones places)
    IsTotal-zones zones [] = IsTotal-is (Ok zones)
    IsTotal-zones zones (place ∷ places) = IsTotal-then _ _ (IsTotal-next zones place) (λ more next. IsTotal-zones more places)

-- zones that files come to are valid
module _ (files : Option (List File)) (words : List (List ℕ)) where
  valid_zone : (place : ℕ) (zone : Zone) → ZoneAt files words place (Ok zone) → IsValid zone
  valid_zone place zone (goes records said (inl (made, built, valid, is))) = let same : zone ≡ made = cc is in subst IsValid (sym same) valid
  valid_zone place zone (goes records said (inr (f, has, known, is))) = absurd (cc is)
  valid_zone place zone (stops cause stopped is) = absurd (cc is)

  valid_next : (zones more : List Zone) (place : ℕ) → AllByRecursion IsValid zones → NextZone files words zones place (Ok more) → AllByRecursion IsValid more
  valid_next zones more place all (goes zone built (inl (apart, fits, is))) =
      let same : more ≡ zones ++ zone ∷ [] = cc is in
      subst (λ zs. AllByRecursion IsValid zs) (sym same) (AllByRecursion-append IsValid zones (zone ∷ []) all (valid_zone place zone built, tt))
  valid_next zones more place all (goes zone built (inr (f, has, known, is))) = absurd (cc is)
  valid_next zones more place all (stops cause stopped is) = absurd (cc is)

  pub valid_zones : (zones more : List Zone) (places : List ℕ) → AllByRecursion IsValid zones
      → ZonesFrom files words zones places (Ok more) → AllByRecursion IsValid more
  valid_zones zones more [] all is = let same : more ≡ zones = cc is in subst (λ zs. AllByRecursion IsValid zs) (sym same) all
  valid_zones zones more (place ∷ places) all (goes between next rest) =
      valid_zones between more places (valid_next zones between place all next) rest
  valid_zones zones more (place ∷ places) all (stops cause stopped is) = absurd (cc is)
