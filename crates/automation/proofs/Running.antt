-- Parameters that run: some of all, in order.
use Rattle.std.proofs.Common.{ℕ, zero, suc, ◌≡◌, ◌+◌, ◌≤◌, ◌<◌, length, List, [], ◌∷◌, ◌++◌, map, take, drop, slice_index_or, slice_set, Bool, true, false, inl, inr, refl, sym, ◌∙◌, ap, arith, subst}
use Rattle.std.specs.Prelude.{◌⊎◌, nat_lt}
use Rattle.std.specs.List.Sorted.{IsNonDecreasingBy}
use Rattle.std.proofs.lemmas.Bool.Decides.{nat_tests}
use Rattle.std.specs.List.{sum_by}
use Rattle.std.proofs.lemmas.List.{append_assoc, append-nil, drop-map, drop_all, drop_more, get_or-map, get_or-set_other, length-map}
use Rattle.std.proofs.lemmas.Grind.{get_or-set_at}
use Rattle.std.proofs.lemmas.List.Sums.{sum-map, sum_by-cons, sum_by_more, sum_by-take-le}
use Rattle.law_base.specs.Members.{IsIn}
use Rattle.law_base.proofs.Members.{IsIn-append_first, IsIn-append_second}
use Rattle.automation.specs.Ready.{AreRunning, RiseWithin, RunningView, param_of}
use Rattle.automation.proofs.Places.{before_or_here, in_list, place_of}

-- ---- numbers that rise

pub rise_lower : (low low' end : ℕ) (is : List ℕ) → low' ≤ low → RiseWithin low end is → RiseWithin low' end is
rise_lower low low' end [] l r = tt
rise_lower low low' end (i ∷ is) l r = (omega (arith, l, r.0), r.1, r.2)

-- one more behind them
pub rise_more : (low end : ℕ) (is : List ℕ) → low ≤ end → RiseWithin low end is → RiseWithin low (end + 1) (is ++ end ∷ [])
rise_more low end [] l r = (l, omega arith, tt)
rise_more low end (i ∷ is) l r = (r.0, (let below = r.1 in omega (arith, below)), rise_more (i + 1) end is (let below = r.1 in omega (arith, below)) r.2)

-- they are below the end
pub rise_below : (low end : ℕ) (is : List ℕ) → RiseWithin low end is → (i : ℕ) → IsIn i is → i < end
rise_below low end [] r i is = absurd is
rise_below low end (j ∷ js) r i (inl same) = let below = r.1 in omega (arith, below, same)
rise_below low end (j ∷ js) r i (inr later) = rise_below (j + 1) end js r.2 i later

-- none of them is below the first
rise_from : (low end : ℕ) (is : List ℕ) → RiseWithin low end is → (i : ℕ) → IsIn i is → low ≤ i
rise_from low end [] r i is = absurd is
rise_from low end (j ∷ js) r i (inl same) = let from = r.0 in omega (arith, from, same)
rise_from low end (j ∷ js) r i (inr later) = let from = rise_from (j + 1) end js r.2 i later in let first = r.0 in omega (arith, from, first)

-- those before one are below it, and those behind it above
rise_before : (low end : ℕ) (is : List ℕ) (i : ℕ) (js : List ℕ) → RiseWithin low end (is ++ i ∷ js) → (n : ℕ) → IsIn n is → n < i
rise_before low end [] i js up n there = absurd there
rise_before low end (k ∷ is) i js up n (inl same) = let from = rise_from (k + 1) end (is ++ i ∷ js) up.2 i (IsIn-append_second is (i ∷ js) i (inl refl)) in omega (arith, from, same)
rise_before low end (k ∷ is) i js up n (inr later) = rise_before (k + 1) end is i js up.2 n later

rise_behind : (low end : ℕ) (is : List ℕ) (i : ℕ) (js : List ℕ) → RiseWithin low end (is ++ i ∷ js) → (n : ℕ) → IsIn n js → i < n
rise_behind low end [] i js up n there = let from = rise_from (i + 1) end js up.2 n there in omega (arith, from)
rise_behind low end (k ∷ is) i js up n there = rise_behind (k + 1) end is i js up.2 n there

-- they still rise without one
pub rise_without : (low end : ℕ) (is : List ℕ) (i : ℕ) (js : List ℕ) → RiseWithin low end (is ++ i ∷ js) → RiseWithin low end (is ++ js)
rise_without low end [] i js up = rise_lower (i + 1) low end js (let from = up.0 in omega (arith, from)) up.2
rise_without low end (k ∷ is) i js up = (up.0, up.1, rise_without (k + 1) end is i js up.2)

-- ---- some that are done, and those from a place on

module _ (end k : ℕ) (done all : List ℕ) where
  -- the next one joins those that are done
  pub rise_on : (i : ℕ) → k < length all → slice_index_or all k 0 ≡ i → RiseWithin 0 end (done ++ drop k all) → RiseWithin 0 end ((done ++ i ∷ []) ++ drop (k + 1) all)
  rise_on i l is up =
      subst (RiseWithin 0 end) (ap (λ (ns : List ℕ). done ++ ns) (drop_more all k 0 l ∙ ap (λ n. n ∷ drop (k + 1) all) is) ∙ sym (append_assoc done (i ∷ []) (drop (k + 1) all))) up

  -- the next one is left out
  pub rise_past : k < length all → RiseWithin 0 end (done ++ drop k all) → RiseWithin 0 end (done ++ drop (k + 1) all)
  rise_past l up = rise_without 0 end done (slice_index_or all k 0) (drop (k + 1) all) (subst (λ (ns : List ℕ). RiseWithin 0 end (done ++ ns)) (drop_more all k 0 l) up)

  -- none is left
  pub rise_done : length all ≤ k → RiseWithin 0 end (done ++ drop k all) → RiseWithin 0 end done
  rise_done past up = subst (RiseWithin 0 end) (ap (λ (ns : List ℕ). done ++ ns) (drop_all k all past) ∙ append-nil done) up

-- ---- those beside one

IsIn-map : {X Y : Type 0} (f : X → Y) (xs : List X) (x : X) → IsIn x xs → IsIn (f x) (map f xs)
IsIn-map f [] x there = absurd there
IsIn-map f (y ∷ ys) x (inl same) = inl (ap f same)
IsIn-map f (y ∷ ys) x (inr later) = inr (IsIn-map f ys x later)

-- an item stands first of those from its place on
pub first_left : {X : Type 0} (xs : List X) (k : ℕ) (d : X) → k < length xs → IsIn (slice_index_or xs k d) (drop k xs)
first_left xs k d l = subst (λ (ys : List _). IsIn (slice_index_or xs k d) ys) (sym (drop_more xs k d l)) (inl refl)

-- and those behind it are some of them
pub also_left : {X : Type 0} (xs : List X) (k : ℕ) (x : X) → k < length xs → IsIn x (drop (k + 1) xs) → IsIn x (drop k xs)
also_left xs k x l there = subst (λ (ys : List _). IsIn x ys) (sym (drop_more xs k x l)) (inr there)

module _ (end : ℕ) (front old : List RunningView) (k place : ℕ) (low : k < length (map param_of old)) (is : slice_index_or (map param_of old) k 0 ≡ place) (rise : RiseWithin 0 end (map param_of front ++ drop k (map param_of old))) where
  parted : RiseWithin 0 end (map param_of front ++ place ∷ drop (k + 1) (map param_of old))
  parted = subst (λ (ns : List ℕ). RiseWithin 0 end (map param_of front ++ ns)) (drop_more (map param_of old) k 0 low ∙ ap (λ i. i ∷ drop (k + 1) (map param_of old)) is) rise

  left : (r : RunningView) → IsIn r (drop (k + 1) old) → IsIn r.param (drop (k + 1) (map param_of old))
  left r there = subst (λ (ns : List ℕ). IsIn r.param ns) (sym (drop-map param_of (k + 1) old)) (IsIn-map param_of (drop (k + 1) old) r there)

  pub front_low : (r : RunningView) → IsIn r front → r.param < end
  front_low r there = rise_below 0 end _ parted r.param (IsIn-append_first (map param_of front) _ r.param (IsIn-map param_of front r there))

  pub front_apart : (r : RunningView) → IsIn r front → r.param ≡ place → ⊥
  front_apart r there same = let l = rise_before 0 end (map param_of front) place _ parted r.param (IsIn-map param_of front r there) in omega (arith, l, same)

  pub left_low : (r : RunningView) → IsIn r (drop (k + 1) old) → r.param < end
  left_low r there = rise_below 0 end _ parted r.param (IsIn-append_second (map param_of front) (place ∷ drop (k + 1) (map param_of old)) r.param (inr (left r there)))

  pub left_apart : (r : RunningView) → IsIn r (drop (k + 1) old) → r.param ≡ place → ⊥
  left_apart r there same = let l = rise_behind 0 end (map param_of front) place _ parted r.param (left r there) in omega (arith, l, same)

-- ---- what runs takes no more than all

-- the items of a longer front take no less
sum_taken : {X : Type 0} (f : X → ℕ) (low i : ℕ) (xs : List X) → low ≤ i → sum_by f (take low xs) ≤ sum_by f (take i xs)
sum_taken f zero i xs l = omega arith
sum_taken f (suc low) zero xs l = absurd (omega (arith, l))
sum_taken f (suc low) (suc i) [] l = omega arith
sum_taken f (suc low) (suc i) (x ∷ xs) l = let rest = sum_taken f low i xs (omega (arith, l)) in omega (arith, rest, sum_by-cons f x (take low xs), sum_by-cons f x (take i xs))

sum_rising : {X : Type 0} (f : X → ℕ) (d : X) (low : ℕ) (xs : List X) (is : List ℕ) → low ≤ length xs → RiseWithin low (length xs) is
    → sum_by f (take low xs) + sum_by (λ i. f (slice_index_or xs i d)) is ≤ sum_by f xs
sum_rising f d low xs [] l up = let all = sum_by-take-le f xs low in omega (arith, all)
sum_rising f d low xs (i ∷ is) l up =
    let rest = sum_rising f d (i + 1) xs is (let below = up.1 in omega (arith, below)) up.2 in
    let front = sum_taken f low i xs up.0 in
    let own = sum_by_more f xs i d up.1 in
    let head = sum_by-cons (λ k. f (slice_index_or xs k d)) i is in
    omega (arith, rest, front, own, head)

-- the items at places that rise take no more than all
sum_running : {X : Type 0} (f : X → ℕ) (d : X) (xs : List X) (is : List ℕ) → RiseWithin 0 (length xs) is → sum_by (λ i. f (slice_index_or xs i d)) is ≤ sum_by f xs
sum_running f d xs is up = let all = sum_rising f d 0 xs is (omega arith) up in omega (arith, all)

-- ---- those that are still to come

-- one that is still to come is the next one or comes behind it
pub next_or_later : (is : List ℕ) (k i d : ℕ) → k < length is → IsIn i (drop k is) → (i ≡ slice_index_or is k d) ⊎ IsIn i (drop (k + 1) is)
next_or_later is k i d l there = subst (λ (ns : List ℕ). IsIn i ns) (drop_more is k d l) there

-- ---- places

-- what a parameter takes, where it stands
abbrev pub cost_at : {X : Type 0} → (X → ℕ) → List X → ℕ → ℕ
cost_at f xs i = slice_index_or (map f xs) i 0

pub cost_is : {X : Type 0} (f : X → ℕ) (xs : List X) (i : ℕ) (x : X) → i < length xs → x ≡ slice_index_or xs i x → cost_at f xs i ≡ f x
cost_is f xs i x l is = get_or-map f xs i x 0 l ∙ ap f (sym is)

-- the parameters that run take no more than all do
pub cost_running : {X : Type 0} (f : X → ℕ) (xs : List X) (is : List ℕ) → RiseWithin 0 (length xs) is → sum_by (cost_at f xs) is ≤ sum_by f xs
cost_running f xs is up =
    let all = sum_running (λ n. n) 0 (map f xs) is (subst (λ n. RiseWithin 0 n is) (sym (length-map xs f)) up) in
    omega (arith, all, sum-map f xs)

-- the places stay where none is changed
pub places_stay : (rs : List RunningView) (k : ℕ) (y r : RunningView) → k < length rs → y.param ≡ (slice_index_or rs k r).param → map param_of (slice_set rs k y) ≡ map param_of rs
places_stay [] k y r l same = absurd (omega (arith, l))
places_stay (x ∷ xs) zero y r l same = ap (λ n. n ∷ map param_of xs) same
places_stay (x ∷ xs) (suc k) y r l same = ap (λ ns. x.param ∷ ns) (places_stay xs k y r (omega (arith, l)) same)

module _ (old running : List RunningView) (same : map param_of running ≡ map param_of old) (k : ℕ) (r : RunningView) (l : k < length old) where
  pub same_length : length running ≡ length old
  same_length = sym (length-map running param_of) ∙ ap length same ∙ length-map old param_of

  pub place_is : (d : ℕ) → slice_index_or (map param_of old) k d ≡ (slice_index_or running k r).param
  place_is d = ap (λ (ns : List ℕ). slice_index_or ns k d) (sym same) ∙ get_or-map param_of running k r d (omega (arith, l, same_length))

-- a place of those that run is below their number
pub place_low : (old : List RunningView) (k place : ℕ) → k < length old → slice_index_or (map param_of old) k 0 ≡ place → (count : ℕ) → AreRunning count old → place < count
place_low old k place l is count up = rise_below 0 count (map param_of old) up place (subst (λ n. IsIn n (map param_of old)) is (in_list (map param_of old) k 0 (omega (arith, l, length-map old param_of))))

-- one that is still to come, and is as it was
module _ (old running : List RunningView) (k : ℕ) (r : RunningView) (l : k < length old) (is : r ≡ slice_index_or running k r) (same : slice_index_or running k r ≡ slice_index_or old k r) (place : ℕ) (at : place ≡ r.param) where
  pub next_is : (d : ℕ) → slice_index_or (map param_of old) k d ≡ place
  next_is d = get_or-map param_of old k r d l ∙ ap param_of (sym same ∙ sym is) ∙ sym at

  pub next_low : (count : ℕ) → AreRunning count old → place < count
  next_low count up = place_low old k place l (next_is 0) count up

-- one more item has what those before it have
pub item_more : {X : Type 0} (P : X → Type 0) (xs : List X) (k : ℕ) (y : X) → k < length xs → P y → ((j : ℕ) (d : X) → j < k → P (slice_index_or xs j d)) → (j : ℕ) (d : X) → j < k + 1 → P (slice_index_or (slice_set xs k y) j d)
item_more P xs k y l own old j d low = elim (before_or_here k j low) [
  | inl before ↦ subst P (sym (get_or-set_other xs k j y d (λ e. let same : j ≡ k = e in omega (arith, before, same)))) (old j d before)
  | inr same ↦ subst P (sym (get_or-set_at xs k j y d same l)) own
]

-- ---- a search by the places

pub running_rise : (low end : ℕ) (rs : List RunningView) → RiseWithin low end (map param_of rs) → IsNonDecreasingBy param_of rs
running_rise low end [] up i j d l m = absurd (omega arith)
running_rise low end (r ∷ rs) up zero zero d l m = omega arith
running_rise low end (r ∷ rs) up zero (suc j) d l m =
    let from = rise_from (r.param + 1) end (map param_of rs) up.2 (slice_index_or rs j d).param (IsIn-map param_of rs (slice_index_or rs j d) (in_list rs j d (omega arith))) in
    omega (arith, from)
running_rise low end (r ∷ rs) up (suc i) zero d l m = absurd (omega arith)
running_rise low end (r ∷ rs) up (suc i) (suc j) d l m = running_rise (r.param + 1) end rs up.2 i j d (omega arith) (omega arith)

-- where those before a place are below a number, and the one there is above it, none has it
pub runs_not : (end : ℕ) (rs : List RunningView) (k n : ℕ) → RiseWithin 0 end (map param_of rs) → ((i : ℕ) (d : RunningView) → i < k → i < length rs → (slice_index_or rs i d).param < n)
    → ((d : RunningView) → k < length rs → n < (slice_index_or rs k d).param) → IsIn n (map param_of rs) → ⊥
runs_not end rs k n up low high there = by_side (nat_lt i k) refl
  where
    found : (i : ℕ) × (i < length (map param_of rs)) × ((d : ℕ) → slice_index_or (map param_of rs) i d ≡ n)
    found = place_of (map param_of rs) n there

    i : ℕ
    i = found.0

    d : RunningView
    d = record { param = 0; cursor = 0; until = 0 }

    within : i < length rs
    within = subst (λ len. i < len) (length-map rs param_of) found.1

    here : (slice_index_or rs i d).param ≡ n
    here = sym (get_or-map param_of rs i d 0 within) ∙ found.2 0

    by_side : (b : Bool) → nat_lt i k ≡ b → ⊥
    by_side true t = let below : i < k = grind (arith, nat_tests) in let less = low i d below within in omega (arith, less, here)
    by_side false t =
        let from : k ≤ i = grind (arith, nat_tests) in
        let some : k < length rs = omega (arith, from, within) in
        let more = high d some in
        let up' = running_rise 0 end rs up k i d from within in
        omega (arith, more, up', here)
