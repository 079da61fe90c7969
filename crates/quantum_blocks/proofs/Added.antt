-- What waits is added as it is.
use Rattle.std.proofs.Common.{ℕ, ℤ, pos, ◌≡◌, ◌<◌, ◌+ℤ◌, List, sym, ◌∙◌, ap, arith, subst}
use Rattle.std.proofs.lemmas.Int.{ints}
use Rattle.wa_base.specs.declared.graph_names.Interp.{Interp}
use Rattle.mix_rules.specs.Blocks.{sample, frame_at}
use Rattle.mix_rules.specs.Mixing.{mix}
use Rattle.mix_rules.proofs.Laws.{mix_same}
use Rattle.channel_mix.specs.Sums.{SumsView, sum_at}

-- with equally many channels nothing is mixed
pub one_more : (interp : Interp) (n q : ℕ) (old new : SumsView) (values : List ℤ) → old.frames ≡ q → old.count ≡ n
    → ((c m : ℕ) → c < old.count → m < old.frames → sum_at new c m ≡ sum_at old c m +ℤ mix interp n old.count (frame_at old.frames values m) c)
    → (c m : ℕ) → c < n → m < q → sum_at new c m ≡ sum_at old c m +ℤ sample q values c m
one_more interp n q old new values frames count adds c m low now =
    adds c m (subst (λ k. c < k) (sym count) low) (subst (λ k. m < k) (sym frames) now)
    ∙ ap (λ k. sum_at old c m +ℤ mix interp n k (frame_at old.frames values m) c) count
    ∙ ap (λ k. sum_at old c m +ℤ mix interp n n (frame_at k values m) c) frames
    ∙ ap (λ x. sum_at old c m +ℤ x) (mix_same interp n (frame_at q values m) c low)

pub then_one : (old wait value heard : ℤ) → value ≡ heard → old +ℤ (wait +ℤ value) ≡ (old +ℤ wait) +ℤ heard
then_one old wait value heard same = omega (arith, ints, same)

pub first_one : (old value heard : ℤ) → value ≡ heard → old +ℤ value ≡ (old +ℤ pos 0) +ℤ heard
first_one old value heard same = omega (arith, ints, same)

pub last_one : (old new u v w value heard : ℤ) → new ≡ old +ℤ ((u +ℤ v) +ℤ (w +ℤ value)) → value ≡ heard → new +ℤ pos 0 ≡ (old +ℤ ((u +ℤ v) +ℤ w)) +ℤ heard
last_one old new u v w value heard adds same = omega (arith, ints, adds, same)

pub as_it_is : (interp : Interp) (channels n q : ℕ) (values : List ℤ) (c m : ℕ) → channels ≡ n → c < n → sample q values c m ≡ mix interp channels n (frame_at q values m) c
as_it_is interp channels n q values c m equal low =
    sym (ap (λ k. mix interp k n (frame_at q values m) c) equal ∙ mix_same interp n (frame_at q values m) c low)
