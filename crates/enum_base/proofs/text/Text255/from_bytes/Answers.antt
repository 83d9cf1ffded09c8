use Rattle.std.proofs.Common.{refl}
use Rattle.enum_base.proofs.PaddingLemmas.{padded_written}
use Rattle.enum_base.proofs.text.Text255.from_bytes.Goals as goal

pub invariant_of-result : goal.invariant_of-result
invariant_of-result c = padded_written 255 c.args.bytes.now c.copy_from_slice.new.self _ c.copy_from_slice.ensures.after refl
