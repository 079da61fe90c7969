-- What is said of reaching and of heights.
use Rattle.std.specs.Prelude.{ℕ, List, Bool, true, length, ◌≡◌, ◌≤◌}
use Rattle.law_base.specs.Members.{IsIn}
use Rattle.law_base.specs.Reaching.{reaches}
use Rattle.law_base.specs.Heights.{at_height}

-- As many arrows as there are ends reach all that any number of arrows reaches.
abbrev pub ReachingLaw : Type 0 → Type 0
ReachingLaw E = (arrow : E → E → Bool) (ends : List E) (n : ℕ) (a b : E) → IsIn a ends → reaches arrow ends n a b ≡ true → reaches arrow ends (length ends) a b ≡ true

-- Where the rule at an end depends on the ends with an arrow to it alone, and is silent at an end that reaches itself,
-- heights from the number of ends on give the same.
abbrev pub SettlingLaw : Type 0 → Type 0 → Type 0
SettlingLaw E A = (arrow : E → E → Bool) (ends : List E) (silence : E → A) (rule : (E → A) → E → A)
    → ((e : E) (s t : E → A) → IsIn e ends → ((d : E) → IsIn d ends → arrow d e ≡ true → s d ≡ t d) → rule s e ≡ rule t e)
    → ((e : E) → reaches arrow ends (length ends) e e ≡ true → (s : E → A) → rule s e ≡ silence e)
    → (h : ℕ) → length ends ≤ h → (e : E) → IsIn e ends → at_height silence rule h e ≡ at_height silence rule (length ends) e
