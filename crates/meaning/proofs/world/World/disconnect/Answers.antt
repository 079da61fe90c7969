use Rattle.std.proofs.Common.{◌≡◌, None, Result, Ok, Err, IsOk, refl, ap, sym, ◌∙◌}
use Rattle.std.specs.Result.{result_err}
use Rattle.wa_base.specs.declared.exceptions.Exc.{Exc}
use Rattle.conn_graph.specs.Graph.{Connections}
use Rattle.meaning.specs.World.{plain}
use Rattle.meaning.specs.Changes.{with_graph}
use Rattle.meaning.proofs.Changing.{not_refused}
use Rattle.meaning.proofs.world.World.disconnect.Goals as goal

pub done-requires : goal.done-requires
done-requires c = record { accepted = by_result c.disconnect.result refl }
  where
    by_result : (r : Result (Unit {0}) Exc) → c.disconnect.result ≡ r → IsOk r
    by_result (Ok v) is = search
    by_result (Err exc) is = let thrown = (c.disconnect.ensures.refused exc).0 is in absurd (let no = sym c.requires.accepted ∙ thrown in cc)

pub returns-clause-disconnected : goal.returns-clause-disconnected
returns-clause-disconnected c =
    let none : result_err c.disconnect.result ≡ None = by_result c.disconnect.result refl in
    ap (λ (g : Connections). with_graph (plain c.args.self.now) g) (not_refused c.disconnect.result none c.disconnect.ensures.ok)
  where
    by_result : (r : Result (Unit {0}) Exc) → c.disconnect.result ≡ r → result_err r ≡ None
    by_result (Ok v) is = refl
    by_result (Err exc) is = let thrown = (c.disconnect.ensures.refused exc).0 is in absurd (let no = sym c.requires.accepted ∙ thrown in cc)
