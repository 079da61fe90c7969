-- Legal orders of the unmuted ends.
use Rattle.std.specs.Prelude.{ℕ, ◌≡◌, ◌↔◌, List, [], ◌∷◌, ◌++◌, true, false}
use Rattle.wa_base.specs.declared.graph_names.End.{End}
use Rattle.law_base.specs.Members.{IsIn, AreDistinct}
use Rattle.conn_graph.specs.Graph.{Connections}
use Rattle.conn_graph.specs.Ends.{writer_of, ends, is_delay, arrow, muted}

-- What is left goes on after the ends done: each is unmuted and not done, and arrows to it from unmuted ends come from done ones.
-- At the end of the list each unmuted end is done.
abbrev pub IsLegalAfter : Connections → List End → List End → Type 0
IsLegalAfter g done [] = (d : End) → IsIn d (ends g) → muted g d ≡ false → IsIn d done
IsLegalAfter g done (e ∷ es) =
    IsIn e (ends g) × (muted g e ≡ false) × (IsIn e done → ⊥)
    × ((d : End) → IsIn d (ends g) → muted g d ≡ false → arrow g d e ≡ true → IsIn d done)
    × IsLegalAfter g (e ∷ done) es

-- a list of the unmuted ends, each once, in which every arrow between them goes forward
abbrev pub IsLegalOrder : Connections → List End → Type 0
IsLegalOrder g order = IsLegalAfter g [] order

-- A writer is never muted, and every graph has a legal order.
abbrev pub MutingLaw : Type 0
MutingLaw = (g : Connections) → ((i : ℕ) → is_delay g i ≡ true → muted g (writer_of i) ≡ false) × ((order : List End) × IsLegalOrder g order)

-- Each unmuted end, and nothing else, stands in the order, and once; and every arrow between its ends goes forward.
pub record IsOrdered (g : Connections) (order : List End) : Type 0 where
  pub once : AreDistinct order
  pub all : (d : End) → IsIn d order ↔ (IsIn d (ends g) × (muted g d ≡ false))
  -- wherever an end stands, those with an arrow to it stand before it
  pub forward : (before behind : List End) (e d : End) → order ≡ before ++ e ∷ behind → IsIn d order → arrow g d e ≡ true → IsIn d before

-- A list is a legal order exactly where it is ordered.
abbrev pub LegalOrderLaw : Type 0
LegalOrderLaw = (g : Connections) (order : List End) → IsLegalOrder g order ↔ IsOrdered g order
