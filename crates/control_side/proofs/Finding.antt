-- What a store answers leads to what its paths hold.
use Rattle.std.proofs.Common.{ℕ, ◌≡◌, ◌<◌, List, length, replicate, true, Option, Some, None, refl, ap, sym, subst, arith}
use Rattle.std.proofs.lemmas.Bool.Decides.{nat_tests}
use Rattle.std.proofs.lemmas.List.{length-replicate}
use Rattle.std.specs.Prelude.{nat_lt}
use Rattle.io_edge.specs.Fetch.{IsWithin, IsFetchedOf}
use Rattle.io_edge.specs.Paths.{Paths}
use Rattle.io_edge.specs.declared.files.Fetched.{Fetched}
use Rattle.io_edge.specs.declared.files.Fetched.TheVariants.{Bytes, Missing, TooLong}
use Rattle.script_ast.specs.declared.operations.Op.{Op}
use Rattle.script_ast.specs.declared.operations.Op.TheVariants as op
use Rattle.control_side.specs.Assets.{max_asset, decodes, found_of, IsAssetOf, IsFit}
use Rattle.control_side.specs.declared.decide.Decided.{Decided}
use Rattle.control_side.specs.declared.decide.Decided.TheVariants as comes_to
use Rattle.control_side.specs.Machine.{Machine}
use Rattle.control_side.specs.Steady.{IsSteady}
use Rattle.control_side.specs.Step.{decided, decided_with, is_start, IsFor}

-- more bytes than an asset may have are more, whichever they are
long_found : (m : Machine) (bytes other : List ℕ) → max_asset < length bytes → max_asset < length other → decodes m (Some bytes) ≡ decodes m (Some other)
long_found m bytes other long longer =
    let here : nat_lt max_asset (length bytes) ≡ true = grind (arith, nat_tests) in
    let there : nat_lt max_asset (length other) ≡ true = grind (arith, nat_tests) in
    rw (here, there) refl

-- what comes of an answer is what comes of what the path holds
pub same_found : (m : Machine) (held : Option (List ℕ)) (fetched : Fetched) → IsWithin max_asset fetched → IsFetchedOf held fetched → decodes m (found_of fetched) ≡ decodes m held
same_found m None (Bytes bytes) within is = absurd is
same_found m None Missing within is = refl
same_found m None (TooLong n) within is = absurd is
same_found m (Some bytes) (Bytes other) within is = ap (λ b. decodes m (Some b)) is
same_found m (Some bytes) Missing within is = absurd is
same_found m (Some bytes) (TooLong n) within is =
    let longer : max_asset < length (replicate n 0) = subst (λ k. max_asset < k) (sym (length-replicate n 0)) within in
    let long : max_asset < length bytes = omega arith in
    long_found m (replicate n 0) bytes longer long

-- no other operation looks into the folder
pub looks_away : (m : Machine) (held : Paths) (o : Op) → ((name path : List ℕ) → o ≡ op.DecodeAudioData name path → ⊥) → decided_with m held o ≡ decided m o
looks_away m held (op.DecodeAudioData name path) other = absurd (other name path refl)
looks_away m held o other = refl

-- startRendering needs no asset
pub starts_without : (held : Paths) (o : Op) (asset : Option Fetched) → is_start o ≡ true → IsAssetOf held o asset
starts_without held op.StartRendering asset starts = tt
starts_without held o asset starts = absurd (let wrong = starts in cc)

-- what decoding comes to is for a call that decodes
pub fit_for : (m : Machine) (name path : List ℕ) (d : Decided) → IsSteady m → IsFit m d → IsFor m (op.DecodeAudioData name path) d
fit_for m name path (comes_to.Answer said) steady fit = tt
fit_for m name path comes_to.Start steady fit = absurd fit
fit_for m name path (comes_to.Suspend frame) steady fit = absurd fit
fit_for m name path comes_to.Resume steady fit = absurd fit
fit_for m name path (comes_to.Change change) steady fit = (record { time = let low = steady.time in omega arith; named = fit.0; accepted = fit.1 }, fit.2)
