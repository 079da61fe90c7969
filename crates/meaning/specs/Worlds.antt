-- The worlds that a session has, one after the other.
use Rattle.std.specs.Prelude.{ℕ, suc, ◌-◌, ◌*◌, ◌≡◌, ◌<◌, ◌≤◌, ◌⊎◌, length, List, [], ◌∷◌, map, All}
use Rattle.wa_base.specs.declared.contexts.ContextSpec.{ContextSpec}
use Rattle.node_table.specs.Delays.{delay_capacity}
use Rattle.node_table.specs.Kinds.{lasting}
use Rattle.node_table.specs.declared.kinds.Kind.{Kind}
use Rattle.node_table.specs.declared.kinds.Kind.TheVariants.{Delay}
use Rattle.node_table.specs.Nodes.{destination_of}
use Rattle.meaning.specs.declared.world.World.{World}
use Rattle.meaning.specs.World.{bare, no_world, node_at}
use Rattle.meaning.specs.Validity.{ports_of, IsValid}
use Rattle.meaning.specs.Counts.{world_in}

-- the destination alone
abbrev pub first_world : ContextSpec → World
first_world spec = record no_world {
  spec = spec;
  nodes = destination_of spec ∷ [];
  graph = bare (record { nodes = map ports_of (destination_of spec ∷ []); edges = [] });
}

-- A node stays in the next world with its number, with what lasts of its kind, and with its birth.
pub record Stays (i : ℕ) (w w' : World) : Type 0 where
  pub there : i < length w'.nodes
  pub kind : lasting (node_at w' i).kind ≡ lasting (node_at w i).kind
  pub birth : (node_at w' i).attrs.birth ≡ (node_at w i).attrs.birth

-- Node i is new in world j of a tape.
abbrev pub IsNewIn : List World → ℕ → ℕ → Type 0
IsNewIn tape j i = (i < length (world_in tape j).nodes) × ((j ≡ 0) ⊎ (length (world_in tape (j - 1)).nodes ≤ i))

-- a delay keeps as many frames as its context and the quantum ask for
abbrev pub HasCapacity : ℕ → ContextSpec → Kind → Type 0
HasCapacity q spec (Delay longest time capacity) = capacity ≡ delay_capacity q longest spec.rate
HasCapacity q spec other = Unit {0}

-- A tape whose worlds are valid, of one context, and follow one another: nodes stay, delays keep what they have to, and each node was born at the first frame of the quantum of its first world.
pub record IsRegular (q : ℕ) (tape : List World) : Type 0 where
  pub valid : All IsValid tape
  pub spec : (j : ℕ) → j < length tape → (world_in tape j).spec ≡ (world_in tape 0).spec
  pub stays : (j i : ℕ) → suc j < length tape → i < length (world_in tape j).nodes → Stays i (world_in tape j) (world_in tape (suc j))
  pub capacity : (j i : ℕ) → j < length tape → HasCapacity q (world_in tape j).spec (node_at (world_in tape j) i).kind
  pub born : (j i : ℕ) → j < length tape → IsNewIn tape j i → (node_at (world_in tape j) i).attrs.birth ≡ q * j
