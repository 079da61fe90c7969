-- The order that a tie chooses: at each place it takes one of the ends that are ready.
use Rattle.std.specs.Prelude.{ℕ, zero, suc, ◌-◌, List, [], ◌∷◌, length, filter, Bool, not, Option, slice_get}
use Rattle.std.specs.List.{list_any}
use Rattle.std.specs.Option.{option_map_or}
use Rattle.wa_base.specs.declared.graph_names.End.{End}
use Rattle.wa_base.specs.declared.graph_names.Tie.{Tie}
use Rattle.wa_base.specs.declared.graph_names.Tie.TheVariants.{Up, Down}
use Rattle.conn_graph.specs.Graph.{Connections}
use Rattle.conn_graph.specs.Ends.{same_end, ends, arrow, muted}

-- Of the ends that are left, one is ready where no end left has an arrow to it: all that go before it are placed.
abbrev pub is_ready : (End → End → Bool) → List End → End → Bool
is_ready arrow left e = not (list_any (λ d. arrow d e) left)

abbrev pub ready_ends : (End → End → Bool) → List End → List End
ready_ends arrow left = filter (is_ready arrow left) left

-- Ends are listed in order of node number, the writer first: the least is the first, and the greatest is the last.
abbrev pub chosen : Tie → List End → Option End
chosen Up es = slice_get es 0
chosen Down es = slice_get es (length es - 1)

abbrev pub without : End → List End → List End
without e es = filter (λ x. not (same_end x e)) es

-- the ends at so many places more, as long as one is ready
unfoldable pub places_from : (End → End → Bool) → Tie → ℕ → List End → List End
places_from arrow tie zero left = []
places_from arrow tie (suc n) left = option_map_or (λ e. e ∷ places_from arrow tie n (without e left)) (chosen tie (ready_ends arrow left)) []

unfoldable pub unmuted_ends : Connections → List End
unmuted_ends g = filter (λ e. not (muted g e)) (ends g)

-- the unmuted ends, at each place the least or the greatest of those that are ready
unfoldable pub chosen_order : Connections → Tie → List End
chosen_order g tie = places_from (arrow g) tie (length (unmuted_ends g)) (unmuted_ends g)
