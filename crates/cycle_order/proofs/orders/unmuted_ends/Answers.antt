use Rattle.std.proofs.Common.{◌≡◌, not, refl, ◌∙◌, ap, sym}
use Rattle.std.proofs.lemmas.Result.{IfOk-weaker}
use Rattle.std.specs.List.{filter}
use Rattle.conn_graph.specs.Ends.{ends, muted}
use Rattle.conn_graph.specs.Graph.{Connections}
use Rattle.cycle_order.specs.Choices.{unmuted_ends}
use Rattle.cycle_order.specs.Surveys.{muted_ends}
use Rattle.cycle_order.proofs.orders.unmuted_ends.Goals as goal

muted_are : (g : Connections) → muted_ends g ≡ filter (muted g) (ends g)
unfolding muted_ends
muted_are g = refl

pub returns : goal.returns
unfolding unmuted_ends
returns c =
    let g : Connections = c.args.graph.now.value in
    let all : c.as_slice.result.now ≡ ends g = c.as_slice.ensures.value ∙ c.in_ok-all.ensures in
    IfOk-weaker c.unlisted.result _ _ (λ rest h. h (muted g) (c.requires ∙ muted_are g ∙ ap (filter (muted g)) (sym all)) ∙ ap (filter (λ e. not (muted g e))) all) c.unlisted.ensures
