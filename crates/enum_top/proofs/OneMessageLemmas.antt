-- What `show` prints is one text.
use Rattle.std.proofs.Common.{◌≡◌, inl, inr, ℕ, List, Some, Result, Ok, Err, sym, ap, ◌∙◌}
use Rattle.enum_base.proofs.StageLemmas.{IsSingle, IsSingle-is, IsSingle-then}
use Rattle.dns_wire.specs.Laws.{NotBoth, OneBreak, OneMessage}
use Rattle.dns_wire.specs.declared.message.Message as wire
use Rattle.enum_top.specs.Showing.{Digits, Messages, Shows, digits_in}
use Rattle.enum_top.specs.declared.cause.Cause.{Cause}
use Rattle.enum_top.specs.declared.cause.Cause.TheVariants.{Message}
use Rattle.enum_top.proofs.HexLemmas.{one_hex}

-- the laws of messages
pub record AreMessageLaws : Type 0 where
  pub one_message : OneMessage
  pub one_break : OneBreak
  pub not_both : NotBoth

-- digits are those of one list of bytes, or of none
IsSingle-digits : (digits : List ℕ) → IsSingle (Digits digits)
IsSingle-digits digits = record { same = same }
  where
    same : (r s : Result (List ℕ) Cause) → Digits digits r → Digits digits s → r ≡ s
    same r s (inl (one, hex, is)) (inl (other, hex', is')) = is ∙ ap Ok (one_hex digits one other hex hex') ∙ sym is'
    same r s (inl (bytes, hex, is)) (inr (none, is')) = absurd (none (bytes, hex))
    same r s (inr (none, is)) (inl (bytes, hex, is')) = absurd (none (bytes, hex))
    same r s (inr (none, is)) (inr (none', is')) = is ∙ sym is'

-- bytes spell one message, or break once
IsSingle-messages : AreMessageLaws → (bytes : List ℕ) → IsSingle (Messages bytes)
IsSingle-messages laws bytes = record { same = same }
  where
    same : (r s : Result wire.Message Cause) → Messages bytes r → Messages bytes s → r ≡ s
    same r s (inl (one, spells, is)) (inl (other, spells', is')) =
        is ∙ ap Ok (laws.one_message bytes one other spells spells') ∙ sym is'
    same r s (inl (message, spells, is)) (inr (fault, breaks, is')) = absurd (laws.not_both bytes message fault spells breaks)
    same r s (inr (fault, breaks, is)) (inl (message, spells, is')) = absurd (laws.not_both bytes message fault spells breaks)
    same r s (inr (one, breaks, is)) (inr (other, breaks', is')) =
        is ∙ ap (λ f. Err (Message f)) (laws.one_break bytes one other breaks breaks') ∙ sym is'

pub IsSingle-shows : AreMessageLaws → (input : List ℕ) → IsSingle (Shows (Some input))
IsSingle-shows laws input =
    IsSingle-then _ _ (IsSingle-is _)
    (λ text. IsSingle-then _ _ (IsSingle-digits (digits_in text))
    (λ bytes. IsSingle-then _ _ (IsSingle-messages laws bytes) (λ message. IsSingle-is _)))
