-- The zones of told files are one list, or one cause stops them.
use Rattle.std.proofs.Common.{◌≡◌, inl, inr, ℕ, List, [], ◌∷◌, Some, Result, Ok, Err, sym, ap, ◌∙◌}
use Rattle.dns_wire.specs.declared.record.Record.{Record}
use Rattle.enum_base.specs.Outside.{File}
use Rattle.naptr_data.specs.Zones.{Labels}
use Rattle.zone_build.specs.Laws.{BuiltRecordsHaveNoFault, RecordsHaveOneFault, RecordsMakeOneZone}
use Rattle.zone_db.specs.Laws.{FittingZonesHaveNoAddFault, ZonesHaveOneAddFault}
use Rattle.zone_build.specs.Zone.{Zone}
use Rattle.zone_text.specs.Zone.{ZoneBreaks, ZoneSays}
use Rattle.zone_text.specs.declared.fault.TextFault.{TextFault}
use Rattle.zone_token.specs.declared.fault.TextWhy.{TextWhy}
use Rattle.enum_top.specs.ZoneFiles.{Adds, Builds, Texts, ZonesFrom}
use Rattle.enum_top.specs.declared.cause.Cause.{Cause}
use Rattle.enum_top.specs.declared.cause.Cause.TheVariants as cause
use Rattle.enum_base.proofs.StageLemmas.{IsSingle, IsSingle-is, IsSingle-then}

-- the laws of zone texts and of zones
pub record AreLaws : Type 0 where
  pub one_text : (bytes : List ℕ) (origin : Labels) (one other : List Record) → ZoneSays bytes origin one → ZoneSays bytes origin other → one ≡ other
  pub one_break : (bytes : List ℕ) (origin : Labels) (line other : ℕ) (why reason : TextWhy)
      → ZoneBreaks bytes origin line why → ZoneBreaks bytes origin other reason → (line ≡ other) × (why ≡ reason)
  pub no_break : (bytes : List ℕ) (origin : Labels) (records : List Record) (line : ℕ) (why : TextWhy)
      → ZoneSays bytes origin records → ZoneBreaks bytes origin line why → ⊥
  pub one_zone : RecordsMakeOneZone
  pub one_fault : RecordsHaveOneFault
  pub no_fault : BuiltRecordsHaveNoFault
  pub one_reason : ZonesHaveOneAddFault
  pub no_reason : FittingZonesHaveNoAddFault

-- a text says one list of records, or has one fault
IsSingle-texts : AreLaws → (place : ℕ) (bytes : List ℕ) → IsSingle (Texts place bytes)
IsSingle-texts laws place bytes = record { same = same }
  where
    same_fault : (one other : TextFault) → (one.line ≡ other.line) × (one.why ≡ other.why) → one ≡ other
    same_fault one other (lines, whys) = λ i. record { line = lines i; why = whys i }

    same : (r s : Result (List Record) Cause) → Texts place bytes r → Texts place bytes s → r ≡ s
    same r s (inl (one, says, is)) (inl (other, says', is')) = is ∙ ap Ok (laws.one_text bytes [] one other says says') ∙ sym is'
    same r s (inl (one, says, is)) (inr (broken, breaks, is')) = absurd (laws.no_break bytes [] one broken.line broken.why says breaks)
    same r s (inr (broken, breaks, is)) (inl (one, says, is')) = absurd (laws.no_break bytes [] one broken.line broken.why says breaks)
    same r s (inr (one, breaks, is)) (inr (other, breaks', is')) =
        is ∙ ap (λ f. Err (cause.Text place f)) (same_fault one other (laws.one_break bytes [] one.line other.line one.why other.why breaks breaks')) ∙ sym is'

-- records make one zone, or have one fault
IsSingle-builds : AreLaws → (place : ℕ) (records : List Record) → IsSingle (Builds place records)
IsSingle-builds laws place records = record { same = same }
  where
    same : (r s : Result Zone Cause) → Builds place records r → Builds place records s → r ≡ s
    same r s (inl (one, built, valid, is)) (inl (other, built', valid', is')) =
        is ∙ ap Ok (laws.one_zone records one other built built') ∙ sym is'
    same r s (inl (zone, built, valid, is)) (inr (unbuilt, has, known, is')) = absurd (known (laws.no_fault records zone unbuilt built valid has))
    same r s (inr (unbuilt, has, known, is)) (inl (zone, built, valid, is')) = absurd (known (laws.no_fault records zone unbuilt built valid has))
    same r s (inr (one, has, known, is)) (inr (other, has', known', is')) =
        is ∙ ap (λ f. Err (cause.Zone place f)) (laws.one_fault records one other has has' known known') ∙ sym is'

-- a zone goes after others in one way, or does not for one reason
IsSingle-adds : AreLaws → (place : ℕ) (zones : List Zone) (zone : Zone) → IsSingle (Adds place zones zone)
IsSingle-adds laws place zones zone = record { same = same }
  where
    same : (r s : Result (List Zone) Cause) → Adds place zones zone r → Adds place zones zone s → r ≡ s
    same r s (inl (apart, fits, is)) (inl (apart', fits', is')) = is ∙ sym is'
    same r s (inl (apart, fits, is)) (inr (unadded, has, known, is')) = absurd (known (laws.no_reason zones zone unadded apart fits has))
    same r s (inr (unadded, has, known, is)) (inl (apart, fits, is')) = absurd (known (laws.no_reason zones zone unadded apart fits has))
    same r s (inr (one, has, known, is)) (inr (other, has', known', is')) =
        is ∙ ap (λ f. Err (cause.Set place f)) (laws.one_reason zones zone one other has has') ∙ sym is'

pub IsSingle-from : AreLaws → (files : List File) (words : List (List ℕ)) (zones : List Zone) (places : List ℕ)
    → IsSingle (ZonesFrom (Some files) words zones places)
IsSingle-from laws files words zones [] = IsSingle-is _
IsSingle-from laws files words zones (place ∷ places) =
    IsSingle-then _ _ (IsSingle-then _ _
    (IsSingle-then _ _ (IsSingle-then _ _ (IsSingle-is _) (λ bytes. IsSingle-texts laws place bytes))
    (λ records. IsSingle-builds laws place records)) (λ zone. IsSingle-adds laws place zones zone))
    (λ more. IsSingle-from laws files words more places)
