-- A recursion over moment and height.
use Rattle.std.specs.Prelude.{ℕ, zero, suc, if◌then◌else◌, ◌==◌}

-- At height 0 there is silence. At height h + 1 the rule sees what there is at height h.
unfoldable pub at_height : {S : Type 0} → S → (S → S) → ℕ → S
at_height silence rule zero = silence
at_height silence rule (suc h) = rule (at_height silence rule h)

-- Of each moment something is known (K), the rule makes its state (S), and later moments see both (F).
pub record Scheme (K S F : Type 0) : Type 0 where
  -- the state at height 0
  pub silence : S
  -- the state one height up, from what is known, the moment, the moments before it, and the state
  pub rule : K → ℕ → (ℕ → F) → S → S
  -- the full height of a moment
  pub full : K → ℕ
  -- a moment as later ones see it
  pub seen_as : K → S → F
  -- what is seen where there is no earlier moment
  pub nothing : F

module _ {K S F : Type 0} (scheme : Scheme K S F) (known : ℕ → K) where
  -- what the moments before n are seen as, each at its full height, and nothing from n on
  unfoldable pub before : ℕ → ℕ → F
  unfolding at_height
  before zero = λ g. scheme.nothing
  before (suc n) = λ g.
      if g == n
      then scheme.seen_as (known n) (at_height scheme.silence (scheme.rule (known n) n (before n)) (scheme.full (known n)))
      else before n g

  -- the state of moment n at height h
  unfoldable pub at_moment : ℕ → ℕ → S
  unfolding at_height before
  at_moment n h = at_height scheme.silence (scheme.rule (known n) n (before n)) h

  -- the state of moment n at its full height
  unfoldable pub state : ℕ → S
  unfolding at_moment
  state n = at_moment n (scheme.full (known n))
