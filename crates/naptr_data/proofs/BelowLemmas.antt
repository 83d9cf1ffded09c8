-- Names at or below others.
use Rattle.std.proofs.Common.{◌≡◌, ℕ, ◌≤◌, List, [], ◌∷◌, ◌++◌, length, refl, sym, ap, ◌∙◌, arith, append_assoc, length-append}
use Rattle.std.proofs.lemmas.List.{map-append, length-map}
use Rattle.enum_base.specs.Folding.{folded}
use Rattle.dns_name.specs.Name.{AreSame, IsBelow, folded_labels}
use Rattle.naptr_data.specs.Zones.{Labels}
use Rattle.naptr_data.proofs.CutLemmas.{map_parts, ends_in}

pub below_itself : (name : Labels) → IsBelow name name
below_itself name = ([], name, refl, refl)

pub below_end : (front back : Labels) → IsBelow (front ++ back) back
below_end front back = (front, back, refl, refl)

-- what is below a name is below the end of that name
pub below_above : (name front back : Labels) → IsBelow name (front ++ back) → IsBelow name back
below_above name front back (before, top, parts, same) =
    let p = map_parts folded top (folded_labels front) (folded_labels back) (same ∙ map-append folded front back) in
    (before ++ p.0, p.1, parts ∙ ap (λ l. before ++ l) p.2 ∙ sym (append_assoc before p.0 p.1), p.4)

pub below_same_top : (name top other : Labels) → AreSame top other → IsBelow name top → IsBelow name other
below_same_top name top other same (front, back, parts, here) = (front, back, parts, here ∙ same)

pub below_same_name : (name other top : Labels) → AreSame name other → IsBelow name top → IsBelow other top
below_same_name name other top same (front, back, parts, here) =
    let p = map_parts folded other (folded_labels front) (folded_labels back) (sym same ∙ ap folded_labels parts ∙ map-append folded front back) in
    (p.0, p.1, p.2, p.4 ∙ here)

pub below_trans : (low middle top : Labels) → IsBelow low middle → IsBelow middle top → IsBelow low top
below_trans low middle top below (front, back, parts, here) =
    below_same_top low back top here (below_above low front back (below_same_top low middle (front ++ back) (ap folded_labels parts) below))

pub below_more : (label : List ℕ) (name top : Labels) → IsBelow name top → IsBelow (label ∷ name) top
below_more label name top below = below_trans (label ∷ name) name top (below_end (label ∷ []) name) below

pub length_same : (one other : Labels) → AreSame one other → length one ≡ length other
length_same one other same = sym (length-map one folded) ∙ ap length same ∙ length-map other folded

pub length_below : (name top : Labels) → IsBelow name top → length top ≤ length name
length_below name top (front, back, parts, here) =
    omega (arith, length_same back top here, ap length parts, length-append front back)

-- of two names above one the longer is below the other
pub below_longer : (name one other : Labels) → IsBelow name one → IsBelow name other → length other ≤ length one → IsBelow one other
below_longer name one other (front, back, parts, here) (front', back', parts', here') h =
    let l : length back' ≤ length back = omega (arith, length_same back one here, length_same back' other here') in
    let e = ends_in front back front' back' (sym parts ∙ parts') l in
    below_same_top one back' other here' (below_same_name back one back' here (e.0, back', e.1, refl))
