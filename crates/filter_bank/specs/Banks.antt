-- The causal nodes of a graph, by node.
use Rattle.std.specs.Prelude.{ℕ, ℤ, pos, ◌≡◌, ◌<◌, ◌≤◌, ◌+◌, ◌-◌, ◌*◌, ◌^◌, length, List, slice_index_or, Option, None, Some}
use Rattle.wa_base.specs.Contexts.{IsQuantumSize}
use Rattle.node_table.specs.declared.equation.Equation.{Equation}
use Rattle.node_table.specs.Equations.{equation_value}
use Rattle.filter_bank.specs.States.{equation_of}
use Rattle.node_table.specs.Frames.{item}
use Rattle.meaning.specs.Lists.{since}
use Rattle.node_table.specs.declared.kinds.Kind.TheVariants.{Causal}
use Rattle.meaning.specs.declared.world.World.{World}
use Rattle.meaning.specs.World.{node_at, kind_of}
use Rattle.filter_bank.specs.Heard.{HeardView, room_of, HasHeard, Brings, IsHeard, IsSame, IsRested}

-- What contracts see of them: the frames of a quantum, how many nodes had a quantum behind them, and for each node what it remembers, if it is causal.
pub record BankView : Type 0 where
  pub quantum : ℕ
  pub known : ℕ
  pub nodes : List (Option HeardView)

-- what holds of all
pub record IsBank (q seen all : ℕ) (zeros scratch : List ℤ) : Type 0 where
  pub size : IsQuantumSize q
  pub within : seen ≤ all
  pub zeros_length : length zeros ≡ 32 * q
  pub scratch_length : length scratch ≡ 32 * q
  pub silent : (k : ℕ) → slice_index_or zeros k (pos 0) ≡ pos 0

abbrev pub heard_at : BankView → ℕ → Option HeardView
heard_at bank node = slice_index_or bank.nodes node None

-- Each causal node of a world has heard its input before a frame, where at has for each node its input's frames.
abbrev pub AreHeard : BankView → World → ℕ → (ℕ → ℕ → ℕ → ℤ) → Type 0
AreHeard bank w now at = (n : ℕ) (equation : Equation) → n < length w.nodes → kind_of w n ≡ Causal equation → IsHeard (heard_at bank n) equation (node_at w n).attrs.birth now (at n)

-- Those that are new have heard nothing.
abbrev pub AreNew : BankView → World → Type 0
AreNew bank w = (n : ℕ) (equation : Equation) → bank.known ≤ n → n < length w.nodes → kind_of w n ≡ Causal equation → IsHeard (heard_at bank n) equation (node_at w n).attrs.birth (node_at w n).attrs.birth (λ g c. pos 0)

-- a node, if it is there, is as it was
abbrev pub IsSameIfThere : Option HeardView → Option HeardView → Type 0
IsSameIfThere None None = Unit {0}
IsSameIfThere (Some old) (Some new) = IsSame old new
IsSameIfThere other another = ⊥

abbrev pub IsRestedIfThere : ℕ → ℕ → Option HeardView → Option HeardView → Type 0
IsRestedIfThere q first None None = Unit {0}
IsRestedIfThere q first (Some old) (Some new) = IsRested q first old new
IsRestedIfThere q first other another = ⊥

-- no causal node is changed, but for its room
pub record AreSame (old new : BankView) : Type 0 where
  pub quantum : new.quantum ≡ old.quantum
  pub known : new.known ≡ old.known
  pub count : length new.nodes ≡ length old.nodes
  pub each : (n : ℕ) → IsSameIfThere (heard_at old n) (heard_at new n)

-- A causal node hears a quantum x of its input and puts out y, channel after channel. No other causal node is changed.
pub record Hears (old new : BankView) (node : ℕ) (x y : List ℤ) : Type 0 where
  pub quantum : new.quantum ≡ old.quantum
  pub known : new.known ≡ old.known
  pub count : length new.nodes ≡ length old.nodes
  pub others : (n : ℕ) → (n ≡ node → ⊥) → heard_at new n ≡ heard_at old n
  pub rooms : (g : HeardView) → heard_at new node ≡ Some g → (f : HeardView) × (heard_at old node ≡ Some f) × (room_of g ≡ room_of f)
  pub heard : (f : HeardView) → heard_at old node ≡ Some f → f.time ≤ 2 ^ 62 → (at : ℕ → ℕ → ℤ) → HasHeard at f → Brings old.quantum f.time x at → IsHeard (heard_at new node) (equation_of f.state) f.birth (f.time + old.quantum) at
  pub values : (f : HeardView) → heard_at old node ≡ Some f → (at : ℕ → ℕ → ℤ) → HasHeard at f → Brings old.quantum f.time x at → (c k : ℕ) → c < room_of f → k < old.quantum →
      item y (c * old.quantum + k) ≡ equation_value (equation_of f.state) (since (λ g. at g c) f.birth (f.time + k + 1 - f.birth))

-- there is room for the channels of each node's end, which stands at the second of its two places
abbrev pub HaveRoom : BankView → List ℕ → Type 0
HaveRoom bank counts = (n : ℕ) (causal : HeardView) → heard_at bank n ≡ Some causal → 2 * n + 1 < length counts → (slice_index_or counts (2 * n + 1) 1 ≤ room_of causal) × (room_of causal ≤ 32)
