-- The state of the machine between two steps.
use Rattle.std.specs.Prelude.{ℕ, List, [], map, Option, Some, None}
use Rattle.wa_base.specs.declared.contexts.ContextSpec.{ContextSpec}
use Rattle.ctx_state.specs.Context.{ContextView, first_context}
use Rattle.name_book.specs.Book.{BookView}
use Rattle.name_book.specs.declared.book.Object.{Object}
use Rattle.meaning.specs.Changes.{Accepts}
use Rattle.meaning.specs.declared.change.Edit.{Edit}
use Rattle.meaning.specs.declared.world.World.{World}
use Rattle.meaning.specs.declared.params.Param.{Param}
use Rattle.meaning.specs.Automation.{slot_set}
use Rattle.meaning.specs.Lists.{Listed, listed}
use Rattle.meaning.specs.World.{plain}
use Rattle.meaning.specs.Worlds.{first_world}

pub record Machine : Type 0 where
  pub context : ContextView
  -- the numbers of the context, its nodes and its connections
  pub world : World
  -- what each name is bound to, and the name under which each node was created
  pub bindings : List (List ℕ × Object)
  pub first_names : List (ℕ × List ℕ)

-- the machine that a context, a world and a book stand for
abbrev pub machine_of : ContextView → World → BookView → Machine
machine_of context world book = record {
  context = context;
  world = plain world;
  bindings = book.bindings;
  first_names = book.first_names;
}

-- the machine before the first call: the destination is there, and its name needs no binding
abbrev pub first_machine : ContextSpec → Machine
first_machine spec = record {
  context = first_context spec;
  world = first_world spec;
  bindings = [];
  first_names = [];
}

-- ---- slots that are left to be set

-- parameters with their slots, where those are still to be set at the first frame of a quantum
abbrev pub params_caught_up : Option ℕ → Listed Param → Listed Param
params_caught_up None params = params
params_caught_up (Some first) params = listed (map (slot_set first) params.items)

abbrev pub world_caught_up : Option ℕ → World → World
world_caught_up behind w = record w { params = params_caught_up behind w.params }

-- The machine that a session is at whose slots are behind: those of the last quantum are still to be set.
abbrev pub caught_up : Option ℕ → Machine → Machine
caught_up behind machine = record machine { world = world_caught_up behind machine.world }

-- the world accepts an edit now
abbrev pub IsAccepted : Machine → Edit → Type 0
IsAccepted machine edit = Accepts machine.world (record { time = machine.context.time; edit = edit })
