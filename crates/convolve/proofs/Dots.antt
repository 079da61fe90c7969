-- Sums of products, item by item and group by group.
use Rattle.std.proofs.Common.{ℕ, ℤ, pos, zero, suc, ◌≡◌, ◌+◌, ◌-◌, ◌*◌, ◌<◌, ◌≤◌, ◌+ℤ◌, ◌*ℤ◌, List, [], ◌∷◌, length, take, drop, get_or, ap, ap₂, sym, refl, ◌∙◌, arith, add-one}
use Rattle.std.specs.Prelude.{min}
use Rattle.std.proofs.lemmas.Int.{ints}
use Rattle.std.proofs.lemmas.List.{get_or-take, length-take, take_min}
use Rattle.node_table.specs.Filters.{dot}
use Rattle.node_table.proofs.Sums.{dot_same}

-- one more product
dot_step : (i : ℕ) (cs xs : List ℤ) → i < length cs → i < length xs → dot (take (suc i) cs) xs ≡ dot (take i cs) xs +ℤ get_or cs i (pos 0) *ℤ get_or xs i (pos 0)
dot_step i [] xs l m = absurd (omega arith)
dot_step i (c ∷ cs) [] l m = absurd (omega arith)
dot_step zero (c ∷ cs) (x ∷ xs) l m = omega (arith, ints)
dot_step (suc i) (c ∷ cs) (x ∷ xs) l m = let more = dot_step i cs xs (omega arith) (omega arith) in omega (arith, ints, more)

pub dot_more : (i : ℕ) (cs xs : List ℤ) → i < length cs → i < length xs → dot (take (i + 1) cs) xs ≡ dot (take i cs) xs +ℤ get_or cs i (pos 0) *ℤ get_or xs i (pos 0)
dot_more i cs xs l m = ap (λ n. dot (take n cs) xs) (add-one i) ∙ dot_step i cs xs l m

dot_nothing : (cs : List ℤ) → dot cs [] ≡ pos 0
dot_nothing [] = refl
dot_nothing (c ∷ cs) = refl

take_nothing : (m : ℕ) (xs : List ℤ) → dot (take m []) xs ≡ pos 0
take_nothing zero xs = refl
take_nothing (suc m) xs = refl

-- the products of the first items, and then those of the next ones
dot_joined : (i m : ℕ) (cs xs : List ℤ) → dot (take (i + m) cs) xs ≡ dot (take i cs) xs +ℤ dot (take m (drop i cs)) (drop i xs)
dot_joined zero m cs xs =
    let e : zero + m ≡ m = omega arith in
    ap (λ n. dot (take n cs) xs) e ∙ omega (arith, ints)
dot_joined (suc i) m [] xs =
    let a = take_nothing (suc i + m) xs in
    let b = take_nothing m (drop (suc i) xs) in
    omega (arith, ints, a, b)
dot_joined (suc i) m (c ∷ cs) [] =
    let a = dot_nothing (take (suc i + m) (c ∷ cs)) in
    let b = dot_nothing (take m (drop i cs)) in
    omega (arith, ints, a, b)
dot_joined (suc i) m (c ∷ cs) (x ∷ xs) =
    let e : suc i + m ≡ suc (i + m) = omega arith in
    let rest = dot_joined i m cs xs in
    ap (λ n. dot (take n (c ∷ cs)) (x ∷ xs)) e ∙ omega (arith, ints, rest)

-- the products of a part
dot_group : (start m : ℕ) (cs xs : List ℤ) → dot (take (start + m) cs) xs ≡ dot (take start cs) xs +ℤ dot (take m (drop start cs)) (take m (drop start xs))
dot_group start m cs xs =
    let short = length-take m (drop start cs) in
    dot_joined start m cs xs
    ∙ ap (λ z. dot (take start cs) xs +ℤ z) (sym (dot_same (take m (drop start cs)) (take m (drop start xs)) (drop start xs) (λ i l. get_or-take m (drop start xs) i (pos 0) (omega (arith, short)))))

-- a group more, where the last one may be shorter
pub group_more : (groups end : ℕ) (cs xs : List ℤ) (sum part next : ℤ) → end ≡ min ((groups + 1) * 64) (length cs) → groups * 64 ≤ end
    → sum ≡ dot (take (groups * 64) cs) xs → part ≡ dot (take (end - groups * 64) (drop (groups * 64) cs)) (take (end - groups * 64) (drop (groups * 64) xs))
    → next ≡ sum +ℤ part → next ≡ dot (take ((groups + 1) * 64) cs) xs
group_more groups end cs xs sum part next end_is low sum_is part_is next_is =
    let start = groups * 64 in
    let up_to : start + (end - start) ≡ min ((groups + 1) * 64) (length cs) = omega arith in
    next_is ∙ ap₂ (λ a b. a +ℤ b) sum_is part_is ∙ sym (dot_group start (end - start) cs xs)
    ∙ ap (λ k. dot (take k cs) xs) up_to ∙ ap (λ (v : List ℤ). dot v xs) (take_min ((groups + 1) * 64) cs)
