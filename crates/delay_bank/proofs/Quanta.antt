-- Lists of delays that are all for quanta of as many frames.
use Rattle.std.proofs.Common.{ℕ, ◌≡◌, ◌∷◌, ◌++◌, ◌<◌, [], length, length-append, take, List, slice_set, Option, Some, None, sym, ◌∙◌, arith}
use Rattle.std.proofs.lemmas.List.{get_or-take, length-take}
use Rattle.law_base.proofs.Places.{one_related, more_item, there_low}
use Rattle.delay_bank.specs.Kept.{DelayView, IsOf}
use Rattle.delay_bank.specs.Banks.{AreOf}

-- where there is no delay, none is for other quanta
pub none_of : (q : ℕ) → IsOf q None
none_of q d is = absurd (let none : (let o : Option DelayView = None in o) ≡ Some d = is in cc)

pub none_yet : (q : ℕ) → AreOf q []
none_yet q n = none_of q

-- the first of them
pub first_of : (q k : ℕ) (delays : List (Option DelayView)) → AreOf q delays → AreOf q (take k delays)
first_of q k delays each n d is =
    let low = there_low (take k delays) n d is in
    let short = length-take k delays in
    each n d (sym (get_or-take k delays n None (omega (arith, low, short))) ∙ is)

-- one becomes another one
pub one_of : (q : ℕ) (delays : List (Option DelayView)) (node : ℕ) (new : Option DelayView) → node < length delays → AreOf q delays → IsOf q new → AreOf q (slice_set delays node new)
one_of q delays node new within each own = one_related None delays node new within (λ old next. IsOf q next) (λ f g h first second. second) delays each own

-- one more joins them
pub more_of : (q : ℕ) (delays : List (Option DelayView)) (new : Option DelayView) → AreOf q delays → IsOf q new → AreOf q (delays ++ new ∷ [])
more_of q delays new each own n d is =
    let low = there_low (delays ++ new ∷ []) n d is in
    let long = length-append delays (new ∷ []) in
    more_item delays new None n (IsOf q) (omega (arith, low, long)) (λ l. each n) (λ e. own) d is
