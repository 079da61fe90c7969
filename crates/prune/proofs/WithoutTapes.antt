-- A tape of worlds without the nodes that are not kept is a part of the tape of the wholes.
use Rattle.std.proofs.Common.{ℕ, zero, suc, ◌≡◌, ◌<◌, length, List, [], ◌∷◌, map, All, refl, sym, ◌∙◌, ap, arith}
use Rattle.std.specs.List.{AllZip}
use Rattle.std.proofs.lemmas.List.Elements.{All-head, All-tail}
use Rattle.conn_graph.specs.Walks.{GraphView}
use Rattle.meaning.specs.declared.world.World.{World}
use Rattle.meaning.specs.declared.params.Param.{Param}
use Rattle.meaning.specs.declared.scheds.Play.{Play}
use Rattle.meaning.specs.Lists.{Listed, listed}
use Rattle.meaning.specs.World.{bare, unread, sounding}
use Rattle.meaning.specs.Validity.{IsValid}
use Rattle.meaning.specs.Counts.{world_in}
use Rattle.meaning.proofs.Sounding.{sounding_valid}
use Rattle.prune.specs.Parts.{IsPartOf, ArePartsOf}
use Rattle.prune.proofs.Flags.{Flags, whole_number, whole_rising}
use Rattle.prune.proofs.Filtered.{map_both}
use Rattle.prune.proofs.Without.{is_kept_param, renumbered_param, IsWithout}
use Rattle.prune.proofs.WithoutParts.{is_part}

-- what can be heard of both
pub sounding_without : (fs : Flags) (part whole : World) → IsWithout fs part whole → IsWithout fs (sounding part) (sounding whole)
sounding_without fs part whole is = record {
  first = is.first;
  spec = is.spec;
  nodes = is.nodes;
  graph = ap (λ (g : GraphView). bare g.value) is.graph;
  params =
      ap (λ (l : Listed Param). listed (map unread l.items)) is.params
      ∙ ap listed (sym (map_both (is_kept_param fs) (renumbered_param fs) unread unread whole.params.items (λ p. refl) (λ p kept. refl)));
  scheds = ap (λ (l : Listed Play). listed l.items) is.scheds;
  store = is.store;
  closed = is.closed;
}

as_long : (fs : Flags) (part whole : List World) → AllZip (IsWithout fs) part whole → length part ≡ length whole
as_long fs [] [] are = refl
as_long fs [] (w ∷ ws) are = absurd are
as_long fs (p ∷ ps) [] are = absurd are
as_long fs (p ∷ ps) (w ∷ ws) are = ap suc (as_long fs ps ws are.1)

each_part : (fs : Flags) (part whole : List World) → AllZip (IsWithout fs) part whole → All IsValid whole → (j : ℕ) → j < length part → IsPartOf (whole_number fs) (world_in part j) (world_in whole j)
each_part fs [] [] are valid j l = absurd (omega arith)
each_part fs [] (w ∷ ws) are valid j l = absurd are
each_part fs (p ∷ ps) [] are valid j l = absurd are
each_part fs (p ∷ ps) (w ∷ ws) are valid zero l = is_part fs (sounding p) (sounding w) (sounding_without fs p w are.0) (sounding_valid w (All-head IsValid w ws valid))
each_part fs (p ∷ ps) (w ∷ ws) are valid (suc j) l = each_part fs ps ws are.1 (All-tail IsValid w ws valid) j (omega arith)

pub are_parts : (fs : Flags) (part whole : List World) → AllZip (IsWithout fs) part whole → All IsValid whole → ArePartsOf (whole_number fs) part whole
are_parts fs part whole are valid = record { rising = whole_rising fs; quanta = as_long fs part whole are; worlds = each_part fs part whole are valid }
