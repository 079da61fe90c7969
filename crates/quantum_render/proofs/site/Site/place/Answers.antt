use Rattle.std.proofs.Common.{◌∙◌, ap}
use Rattle.quantum_blocks.specs.Blocks.{slot}
use Rattle.quantum_render.specs.Sites.{SiteView}
use Rattle.quantum_render.proofs.Drawing.{is_place}
use Rattle.quantum_render.proofs.Rendering.{site_is}
use Rattle.quantum_render.proofs.site.Site.place.Goals as goal

pub returns : goal.returns
returns c = record {
  own = λ blocks fit.
      let s : SiteView = c.args.self.now in
      is_place s (site_is s _ _ _ _ _ _ c.self.invariant.0 c.self.view_is) blocks fit _ (c.slot.ensures ∙ ap (λ (x : SiteView). slot x.end) c.self.view_is);
}
