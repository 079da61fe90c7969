-- What was read of a reader that gives at most so many bytes.
use Rattle.std.proofs.Common.{◌≡◌, ◌≤◌, ◌<◌, ◌∙◌, ℕ, List, [], ◌++◌, length, take, Option, Some, None, option_map, ap, arith, length-take}
use Rattle.std.specs.Prelude.{IfSome}
use Rattle.std.proofs.lemmas.List.{take_all}

-- where fewer were read than could be, these are all
pub all_read : (known : Option (List ℕ)) (n : ℕ) (before bytes : List ℕ) → before ≡ [] → IfSome (option_map (take n) known) (λ xs. bytes ≡ before ++ xs) → length bytes < n
    → IfSome known (λ all. bytes ≡ all)
all_read None n before bytes none read short = tt
all_read (Some all) n before bytes none read short =
    let is : bytes ≡ take n all = read ∙ ap (λ (front : List ℕ). front ++ take n all) none in
    let count : length bytes ≡ length (take n all) = ap length is in
    let fewer : length all ≤ n = omega (arith, length-take n all, count, short) in
    is ∙ take_all n all fewer
