-- What the block of an end has once it is rendered.
use Rattle.std.proofs.Common.{ℕ, ◌≡◌, ◌+◌, ◌*◌, ◌<◌, ◌≤◌, length, List, true, false, refl, sym, ◌∙◌, ap, arith, subst}
use Rattle.wa_base.specs.Contexts.{quantum_of}
use Rattle.wa_base.specs.declared.graph_names.End.{End}
use Rattle.node_table.specs.declared.rows.Channels.TheVariants.{Always}
use Rattle.node_table.specs.Kinds.{row, outputs, is_delay_kind}
use Rattle.node_table.specs.declared.kinds.Kind.{Kind}
use Rattle.conn_graph.proofs.EndLaws.{end_is}
use Rattle.conn_graph.specs.declared.edges.Edge.{Edge}
use Rattle.meaning.proofs.Joined.{joined}
use Rattle.meaning.specs.declared.world.World.{World}
use Rattle.meaning.specs.World.{kind_of}
use Rattle.meaning.specs.Counts.{Counts}
use Rattle.meaning.specs.Values.{Frame, value_by_kind}
use Rattle.automation.specs.Levels.{LevelView}
use Rattle.delay_bank.specs.Banks.{BankView as DelayBank}
use Rattle.quantum_blocks.specs.Blocks.{BlockView, at, room_of, slot, counts_in}
use Rattle.quantum_blocks.specs.Fits.{AreFit}
use Rattle.quantum_render.specs.Sites.{SiteView, IsSite}
use Rattle.quantum_blocks.proofs.Slots.{slot_low, slot-half, lane-only}
use Rattle.quantum_blocks.proofs.Sources.{end_low}
use Rattle.quantum_render.proofs.SiteLaws.{site_slot}
use Rattle.quantum_render.specs.declared.memory.Memory.{Memory}
use Rattle.quantum_render.specs.Renders.{HasLanes, HasCount, Renders, RendersWith, IsReadyFor, Stores, past_of, here_of}

-- the fields of a site are those that contracts see
pub site_is : (s : SiteView) (w : World) (e : End) (edges : List Edge) (counts : List ℕ) (levels : List LevelView) (first : ℕ) → IsSite w e edges counts levels first
    → (let x : SiteView = record { world = w; end = e; into = edges; counts = counts; levels = levels; first = first } in x) ≡ s → IsSite s.world s.end s.into s.counts s.levels s.first
site_is s w e edges counts levels first site same = subst (λ (x : SiteView). IsSite x.world x.end x.into x.counts x.levels x.first) same site

-- the end has its place among the blocks
pub own_within : (s : SiteView) → IsSite s.world s.end s.into s.counts s.levels s.first → (blocks : List BlockView) → AreFit s.world s.counts blocks → (k : ℕ) → k ≡ slot s.end → k < length blocks
own_within s site blocks fit k here =
    subst (λ j. j < length blocks) (sym here) (subst (λ n. slot s.end < n) (sym fit.places) (slot_low s.end (length s.world.nodes) (end_low s.world site.quantum.valid s.end site.there)))

pub mono_own : (s : SiteView) → IsSite s.world s.end s.into s.counts s.levels s.first → (row (kind_of s.world s.end.node.0)).channels ≡ Always 1 → counts_in s.counts s.end ≡ 1
mono_own s site is = site.quantum.range.mono (slot s.end) (site_slot s.world s.end s.into s.counts s.levels s.first site) (subst (λ n. (row (kind_of s.world n)).channels ≡ Always 1) (sym (slot-half s.end)) is)

-- there is room for so many lanes as a block has
pub room_for : (block : BlockView) (n : ℕ) → n ≡ block.lanes → n * block.frames ≤ room_of block
room_for block n same = let all : n * block.frames ≡ block.lanes * block.frames = ap (λ k. k * block.frames) same in omega (arith, all)

-- of one output they are the end's channels
module _ (s : SiteView) (kind : Kind) (is : kind_of s.world s.end.node.0 ≡ kind) (single : outputs kind ≡ 1) where
  all_lanes : outputs (kind_of s.world s.end.node.0) * counts_in s.counts s.end ≡ counts_in s.counts s.end
  all_lanes = ap (λ k. outputs k * counts_in s.counts s.end) is ∙ ap (λ n. n * counts_in s.counts s.end) single ∙ omega arith

  pub lanes_own : (block : BlockView) → HasLanes s block → block.lanes ≡ counts_in s.counts s.end
  lanes_own block has = has ∙ all_lanes

  pub own_room : (block : BlockView) → HasLanes s block → (n : ℕ) → n ≡ counts_in s.counts s.end → n * block.frames ≤ room_of block
  own_room block has n same = room_for block n (same ∙ sym (lanes_own block has))

  module _ (blocks : List BlockView) (block : BlockView) (lanes : block.lanes ≡ counts_in s.counts s.end) (frames : block.frames ≡ quantum_of s.world.spec) where
    abbrev q : ℕ
    q = quantum_of s.world.spec

    first_output : (before : ℕ → Frame) (o c m : ℕ) → o < outputs kind → at block c m ≡ value_by_kind q (s.first + m) (past_of s blocks before) (here_of s blocks m) kind s.end 0 c
        → at block (o * counts_in s.counts s.end + c) m ≡ value_by_kind q (s.first + m) (past_of s blocks before) (here_of s blocks m) kind s.end o c
    first_output before o c m output each =
        let first : o < 1 = subst (λ n. o < n) single output in
        let zeroth : 0 ≡ o = omega arith in
        ap (λ lane. at block lane m) (lane-only o (counts_in s.counts s.end) c first) ∙ each ∙ ap (λ k. value_by_kind q (s.first + m) (past_of s blocks before) (here_of s blocks m) kind s.end k c) zeroth

    pub renders_own : ((j : ℕ) (earlier : ℕ → Counts) → s.first ≡ q * j → HasCount s j earlier kind → (before : ℕ → Frame) (c m : ℕ) → c < counts_in s.counts s.end → m < q
        → at block c m ≡ value_by_kind q (s.first + m) (past_of s blocks before) (here_of s blocks m) kind s.end 0 c) → Renders s blocks block (kind_of s.world s.end.node.0)
    renders_own each = subst (Renders s blocks block) (sym is) (record {
      lanes = lanes ∙ sym all_lanes;
      frames = frames;
      values = λ j earlier begins counted before o c m output low now. first_output before o c m output (each j earlier begins counted before c m low now);
    })

    pub renders_with_own : (memory : Memory) → ((j : ℕ) (earlier : ℕ → Counts) → s.first ≡ q * j → HasCount s j earlier kind → (before : ℕ → Frame) → IsReadyFor s memory blocks before → (c m : ℕ) → c < counts_in s.counts s.end → m < q
        → at block c m ≡ value_by_kind q (s.first + m) (past_of s blocks before) (here_of s blocks m) kind s.end 0 c) → RendersWith s memory blocks block (kind_of s.world s.end.node.0)
    renders_with_own memory each = subst (RendersWith s memory blocks block) (sym is) (record {
      lanes = lanes ∙ sym all_lanes;
      frames = frames;
      values = λ j earlier begins counted before ready o c m output low now. first_output before o c m output (each j earlier begins counted before ready c m low now);
    })

-- what is no delay stores nothing
pub unstored : (s : SiteView) → IsSite s.world s.end s.into s.counts s.levels s.first → is_delay_kind (kind_of s.world s.end.node.0) ≡ false → (block : BlockView) (bank : DelayBank) → Stores s block bank bank
unstored s site kind block bank = record {
  known = refl;
  count = refl;
  others = λ n apart. refl;
  read = λ reader. refl;
  own = λ writer longest born by kept written.
      absurd (let delay : is_delay_kind (kind_of s.world s.end.node.0) ≡ true = sym ((joined s.world site.quantum.valid).delays s.end.node.0) ∙ (end_is s.world.graph.value s.end site.there).1 writer in let no = sym kind ∙ delay in cc);
}
