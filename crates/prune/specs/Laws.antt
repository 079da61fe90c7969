-- What is said of tapes of which one is a part of the other.
use Rattle.std.specs.Prelude.{ℕ, ◌≡◌, ◌<◌, ◌≤◌, length, List}
use Rattle.wa_base.specs.declared.contexts.ContextSpec.{ContextSpec}
use Rattle.wa_base.specs.declared.graph_names.End.{End}
use Rattle.wa_base.specs.declared.graph_names.ParamName.{ParamName}
use Rattle.law_base.specs.Members.{IsIn}
use Rattle.conn_graph.specs.Ends.{ends}
use Rattle.meaning.specs.declared.world.World.{World}
use Rattle.meaning.specs.World.{param_id}
use Rattle.meaning.specs.Counts.{world_in, count}
use Rattle.meaning.specs.Values.{world_at, value, param_value}
use Rattle.meaning.specs.Rendered.{rows}
use Rattle.meaning.specs.Worlds.{IsRegular}
use Rattle.meaning.specs.Laws.{IsEndAt}
use Rattle.prune.specs.Parts.{Numbering, whole_end, ArePartsOf}

-- What is left out is not heard: each end of the part has as many channels as its counterpart in the whole, and carries the same values, each parameter has the same computed value, and the same rows are rendered.
abbrev pub PartLaw : Type 0
PartLaw = (q : ℕ) → 0 < q → q ≤ 1024 → (r : Numbering) (part whole : List World) → IsRegular q part → IsRegular q whole → ArePartsOf r part whole →
    ((j : ℕ) (e : End) → IsIn e (ends (world_in part j).graph.value) → count q part j e ≡ count q whole j (whole_end r e))
    × ((f : ℕ) (e : End) → IsEndAt q part f e → value q part f e ≡ value q whole f (whole_end r e))
    × ((f i : ℕ) (name : ParamName) → i < length (world_at q part f).nodes → param_value q part f (param_id i name) ≡ param_value q whole f (param_id (r i) name))
    × ((spec : ContextSpec) → rows q part spec ≡ rows q whole spec)
