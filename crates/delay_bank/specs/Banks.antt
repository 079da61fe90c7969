-- The delays of a graph's nodes, by node.
use Rattle.std.specs.Prelude.{ℕ, ℤ, ◌≡◌, ◌<◌, ◌≤◌, ◌+◌, ◌*◌, length, List, slice_index_or, Option, None, Some}
use Rattle.wa_base.specs.Contexts.{IsQuantumSize}
use Rattle.delay_line.specs.Delays.{Writer}
use Rattle.node_table.specs.declared.kinds.Kind.TheVariants.{Delay}
use Rattle.meaning.specs.declared.world.World.{World}
use Rattle.meaning.specs.World.{node_at, kind_of}
use Rattle.delay_bank.specs.Kept.{DelayView, room_of, IsKept, IsOf, KeepSame, Brings}

-- What contracts see of delays: the frames of a quantum, how many nodes had a quantum behind them, and for each node its delay, if it is one.
pub record BankView : Type 0 where
  pub quantum : ℕ
  pub known : ℕ
  pub delays : List (Option DelayView)

-- each delay is for quanta of q frames
abbrev pub AreOf : ℕ → List (Option DelayView) → Type 0
AreOf q delays = (n : ℕ) → IsOf q (slice_index_or delays n None)

-- what holds of all
pub record IsBank (q seen : ℕ) (delays : List (Option DelayView)) : Type 0 where
  pub size : IsQuantumSize q
  pub within : seen ≤ length delays
  pub each : AreOf q delays

abbrev pub delay_at : BankView → ℕ → Option DelayView
delay_at bank node = slice_index_or bank.delays node None

-- Each delay of a world keeps what its writer wrote before a frame, where the writers of all nodes are given.
abbrev pub AreKept : BankView → World → ℕ → (ℕ → Writer) → Type 0
AreKept bank w now writers = (n : ℕ) (longest : ℤ) (time : ℤ) (capacity : ℕ) → n < length w.nodes → kind_of w n ≡ Delay longest time capacity → IsKept bank.quantum (delay_at bank n) capacity (node_at w n).attrs.birth now (writers n)

-- Those that are new keep nothing, whatever is written.
abbrev pub AreNew : BankView → World → Type 0
AreNew bank w = (n : ℕ) (longest : ℤ) (time : ℤ) (capacity : ℕ) → bank.known ≤ n → n < length w.nodes → kind_of w n ≡ Delay longest time capacity → (writer : Writer) → IsKept bank.quantum (delay_at bank n) capacity (node_at w n).attrs.birth (node_at w n).attrs.birth writer

-- No delay is changed, but for its room: each keeps what it kept.
pub record AreSame (old new : BankView) : Type 0 where
  pub quantum : new.quantum ≡ old.quantum
  pub known : new.known ≡ old.known
  pub count : length new.delays ≡ length old.delays
  pub still : (n : ℕ) → KeepSame old.quantum (delay_at old n) (delay_at new n)

-- The delay of a node keeps a quantum more, which its writer writes. No other delay is changed, and none in its room.
pub record Writes (old new : BankView) (node first channels : ℕ) (block : List ℤ) : Type 0 where
  pub quantum : new.quantum ≡ old.quantum
  pub known : new.known ≡ old.known
  pub count : length new.delays ≡ length old.delays
  pub others : (n : ℕ) → (n ≡ node → ⊥) → delay_at new n ≡ delay_at old n
  pub rooms : (e : DelayView) → delay_at new node ≡ Some e → (d : DelayView) × (delay_at old node ≡ Some d) × (room_of e ≡ room_of d)
  pub own : (longest born : ℕ) (writer : Writer) → IsKept old.quantum (delay_at old node) longest born first writer → Brings old.quantum first channels block writer → IsKept old.quantum (delay_at new node) longest born (first + old.quantum) writer

-- there is room for the channels of each writer, which stand at the first of its node's two places
abbrev pub HaveRoom : BankView → List ℕ → Type 0
HaveRoom bank counts = (n : ℕ) (d : DelayView) → delay_at bank n ≡ Some d → 2 * n < length counts → slice_index_or counts (2 * n) 1 ≤ room_of d
