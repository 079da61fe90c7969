-- What the delay of a node keeps of what its writer wrote, in quanta of q frames.
use Rattle.std.specs.Prelude.{ℕ, ℤ, pos, ◌≡◌, ◌↔◌, ◌<◌, ◌≤◌, ◌+◌, ◌-◌, ◌*◌, ◌/◌, ◌⊎◌, ◌&&◌, Bool, nat_lt, nat_le, if◌then◌else◌, length, List, [], All, Option, None, Some}
use Rattle.wa_base.specs.Contexts.{IsQuantumSize}
use Rattle.wa_base.specs.declared.graph_names.Interp.{Interp}
use Rattle.mix_rules.specs.Blocks.{sample}
use Rattle.mix_rules.specs.Counts.{greatest}
use Rattle.mix_rules.specs.Mixing.{mix}
use Rattle.delay_line.specs.Delays.{Writer}
use Rattle.delay_line.specs.Lines.{Line, Keeps}
use Rattle.delay_line.specs.Spans.{delay_at}
use Rattle.node_table.specs.declared.kinds.Kind.{Kind}
use Rattle.node_table.specs.declared.rows.Keeps.{Keeps as NodeKeeps}
use Rattle.node_table.specs.declared.rows.Keeps.TheVariants.{Nothing, Heard, Written}
use Rattle.node_table.specs.Kinds.{row}
use Rattle.meaning.specs.Lists.{since}

-- What contracts see of a node's delay: when the node was born, before which frame its writer has written, the most channels that it had in a quantum, and the line that keeps it.
pub record DelayView : Type 0 where
  pub birth : ℕ
  pub time : ℕ
  pub most : ℕ
  pub line : Line

-- what holds of every one
pub record IsLived (q born now greatest_count longest : ℕ) (kept : Line) : Type 0 where
  pub time : now ≡ born + kept.blocks * q
  pub low : 1 ≤ greatest_count
  pub high : greatest_count ≤ 32
  pub block : kept.block ≡ q
  pub size : IsQuantumSize q
  pub capacity : kept.capacity ≡ longest
  pub small : longest ≤ 4194304
  pub counts : All (λ n. n ≤ greatest_count) kept.counts

-- for so many channels there is room
abbrev pub room_of : DelayView → ℕ
room_of d = length d.line.channels

-- what a writer wrote by the frames and quanta of its context, by those since a birth
abbrev pub since_birth : ℕ → ℕ → Writer → Writer
since_birth q birth writer = record { counts = λ k. writer.counts (birth / q + k); frames = λ g c. writer.frames (birth + g) c }

-- A delay of so many frames keeps what its writer wrote from the node's birth up to a frame.
pub record HasKept (q : ℕ) (d : DelayView) (longest born now : ℕ) (writer : Writer) : Type 0 where
  pub capacity : d.line.capacity ≡ longest
  pub block : d.line.block ≡ q
  pub birth : d.birth ≡ born
  pub time : d.time ≡ now
  pub long : now ≡ born + d.line.blocks * q
  pub most : d.most ≡ greatest (since writer.counts (born / q) d.line.blocks)
  pub keeps : Keeps d.line (since_birth q born writer)

-- The delay of a node is there, and keeps it.
pub record IsKept (q : ℕ) (found : Option DelayView) (longest born now : ℕ) (writer : Writer) : Type 0 where
  pub delay : DelayView
  pub there : found ≡ Some delay
  pub has : HasKept q delay longest born now writer

-- what is kept by either of two delays is kept by the other
abbrev pub KeepSame : ℕ → Option DelayView → Option DelayView → Type 0
KeepSame q a b = (longest born now : ℕ) (writer : Writer) → IsKept q a longest born now writer ↔ IsKept q b longest born now writer

-- a delay, if it is there, is for quanta of q frames
abbrev pub IsOf : ℕ → Option DelayView → Type 0
IsOf q found = (d : DelayView) → found ≡ Some d → d.line.block ≡ q

-- a delay that was made room for keeps what it kept, in quanta of as many frames
pub record IsGrown (old new : Option DelayView) : Type 0 where
  pub still : (q : ℕ) → KeepSame q old new
  pub block : (q : ℕ) → IsOf q old → IsOf q new

-- in the quantum that begins at a frame a writer has so many channels, and writes these samples, channel after channel
pub record Brings (q first channels : ℕ) (block : List ℤ) (writer : Writer) : Type 0 where
  pub count : writer.counts (first / q) ≡ channels
  pub frames : (c k : ℕ) → c < channels → k < q → writer.frames (first + k) c ≡ sample q block c k

-- whether a delay has so many frames
abbrev pub between : ℕ → ℕ → ℕ → Bool
between least greatest_delay d = nat_le least d && nat_le d greatest_delay

-- the least number of frames back at which all was written, where a writer has written all before a frame
abbrev pub IsNearest : ℕ → ℕ → ℕ → ℕ → Type 0
IsNearest q first now least = ((now ≡ first + q) × (least ≡ 0)) ⊎ ((now ≡ first) × (least ≡ q))

-- what is asked for in the quantum that begins at a frame is no older than what is kept, and was written before
pub record IsAsked (q first now longest : ℕ) (delays : List ℕ) : Type 0 where
  pub written : (now ≡ first) ⊎ (now ≡ first + q)
  pub kept : (k : ℕ) → k < q → delay_at delays k ≤ longest
  pub earlier : now ≡ first → (k : ℕ) → k < q → q ≤ delay_at delays k

-- what is asked for was written with no more channels than the reader has
abbrev pub AreFew : ℕ → ℕ → Writer → ℕ → ℕ → List ℕ → Type 0
AreFew q born writer channels first delays = (k : ℕ) → k < q → born + delay_at delays k ≤ first + k → writer.counts ((first + k - delay_at delays k) / q) ≤ channels

-- Channel c of what the reader gives at frame f, where the delay is d frames: what the writer wrote so many frames before, mixed from the channels that it had then. It is 0 before birth.
abbrev pub read_back : ℕ → ℕ → Writer → Interp → ℕ → ℕ → ℕ → ℕ → ℤ
read_back q born writer interp channels f d c =
    if nat_lt f (born + d) then pos 0 else mix interp (writer.counts ((f - d) / q)) channels (writer.frames (f - d)) c

-- the delay with which a node is created, if it keeps what it writes
abbrev pub delay_for : ℕ → NodeKeeps → ℕ → Option DelayView
delay_for q (Written frames) born = Some (record { birth = born; time = born; most = 1; line = record { capacity = frames; block = q; blocks = 0; counts = []; channels = [] } })
delay_for q Heard born = None
delay_for q Nothing born = None

abbrev pub first_delay : ℕ → Kind → ℕ → Option DelayView
first_delay q kind born = delay_for q (row kind).keeps born
