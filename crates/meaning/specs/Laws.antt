-- What is said of the definitions. Each law holds for every size of a quantum from 1 to 1,024 frames.
use Rattle.std.specs.Prelude.{ℕ, suc, ◌+◌, ◌-◌, ◌*◌, ◌/◌, ◌≡◌, ◌<◌, ◌≤◌, length, List, [], ◌∷◌, ◌++◌, map, All, true, false, Some}
use Rattle.wa_base.specs.Numbers.{IsFix}
use Rattle.wa_base.specs.declared.graph_names.End.{End}
use Rattle.wa_base.specs.declared.graph_names.ParamId.{ParamId}
use Rattle.law_base.specs.Members.{IsIn}
use Rattle.buffer_store.specs.declared.buffers.Buffer.{Buffer}
use Rattle.node_table.specs.Instructions.{HasFixValue}
use Rattle.node_table.specs.Kinds.{is_delay_kind, capacity_of}
use Rattle.node_table.specs.declared.equation.Equation.TheVariants.{Processor}
use Rattle.node_table.specs.declared.kinds.Kind.{Kind}
use Rattle.node_table.specs.declared.kinds.Kind.TheVariants.{Shaper, Causal}
use Rattle.conn_graph.specs.Ends.{writer_of, reader_of, ends, in_cycle, height, muted}
use Rattle.conn_graph.specs.Orders.{IsLegalOrder}
use Rattle.meaning.specs.declared.world.World.{World}
use Rattle.meaning.specs.World.{sounding, node_at, kind_of}
use Rattle.meaning.specs.Validity.{IsValid}
use Rattle.meaning.specs.Automation.{slot_set, with_params}
use Rattle.meaning.specs.Counts.{world_in, count_rule, count_at, count, counts_before}
use Rattle.meaning.specs.Values.{silence, delay_frames, equation, world_at, value_at, value, frame, frames_before, frame_at, param_value}
use Rattle.meaning.specs.Orders.{values_by}
use Rattle.meaning.specs.Blocks.{blocks_along}
use Rattle.meaning.specs.Worlds.{IsRegular}
use Rattle.meaning.specs.Pasts.{past}

-- whether an end is one of the world in force at a frame
abbrev pub IsEndAt : ℕ → List World → ℕ → End → Type 0
IsEndAt q tape f e = IsIn e (ends (world_at q tape f).graph.value)

-- The recursion in its own words: silence at height 0, and at height h + 1 each end's equation over this frame at height h and over each frame before at its full height.
-- So do the counts of quantum j: one channel at height 0, and at height h + 1 the rule over this quantum at height h and over each quantum before at its full height.
abbrev pub RecursionLaw : Type 0
RecursionLaw = (q : ℕ) (tape : List World) (f j h : ℕ) →
    (value_at q tape f 0 ≡ silence)
    × (value_at q tape f (suc h) ≡ equation q f (frames_before q tape f) (frame_at q tape f h))
    × (count_at q tape j 0 ≡ (λ e. 1))
    × (count_at q tape j (suc h) ≡ count_rule q (world_in tape j) j (counts_before q tape j) (count_at q tape j h))

-- From the number of ends on, a height changes neither a count nor a value.
abbrev pub HeightLaw : Type 0
HeightLaw = (q : ℕ) → 0 < q → q ≤ 1024 → (tape : List World) → All IsValid tape → (f h : ℕ) → height (world_at q tape f).graph.value ≤ h →
    (e : End) → IsEndAt q tape f e → (count_at q tape (f / q) h e ≡ count q tape (f / q) e) × (value_at q tape f h e ≡ value q tape f e)

-- The values of a frame solve its equations, and so do the counts of its quantum.
abbrev pub FixpointLaw : Type 0
FixpointLaw = (q : ℕ) → 0 < q → q ≤ 1024 → (tape : List World) → All IsValid tape → (f : ℕ) → (e : End) → IsEndAt q tape f e →
    (equation q f (frames_before q tape f) (frame q tape f) e ≡ value q tape f e)
    × (count_rule q (world_at q tape f) (f / q) (counts_before q tape (f / q)) (count q tape (f / q)) e ≡ count q tape (f / q) e)

-- the points of the curve that a node has, if it has one, are Fixes, and so is what its program pushes
abbrev pub HasFixPoints : Kind → Type 0
HasFixPoints (Shaper (Some curve) was_set) = All IsFix curve
HasFixPoints (Causal (Processor program)) = All HasFixValue program
HasFixPoints other = Unit {0}

-- the samples of its buffers are Fixes, the points of its curves, and what its programs push
pub record HasFixes (w : World) : Type 0 where
  pub samples : All (λ (b : Buffer). All IsFix b.samples) w.store
  pub points : (i : ℕ) → HasFixPoints (kind_of w i)

-- Every value is a Fix, where the samples of the buffers, the points of the curves and what programs push are.
abbrev pub RangeLaw : Type 0
RangeLaw = (q : ℕ) → 0 < q → q ≤ 1024 → (tape : List World) → All IsValid tape → All HasFixes tape → (f : ℕ) (e : End) (o c : ℕ) → IsFix (value q tape f e o c)

-- Going once along any legal order gives the values.
abbrev pub OrderLaw : Type 0
OrderLaw = (q : ℕ) → 0 < q → q ≤ 1024 → (tape : List World) → All IsValid tape → (f : ℕ) → (order : List End) → IsLegalOrder (world_at q tape f).graph.value order →
    (e : End) → IsEndAt q tape f e → values_by q tape f order e ≡ value q tape f e

-- Going once along any legal order, and making each end's whole block before the next, gives the values of the quantum.
abbrev pub BlockLaw : Type 0
BlockLaw = (q : ℕ) → 0 < q → q ≤ 1024 → (tape : List World) → All IsValid tape → (j : ℕ) → (order : List End) → IsLegalOrder (world_in tape j).graph.value order →
    (m : ℕ) → m < q → (e : End) → IsIn e (ends (world_in tape j).graph.value) →
    blocks_along q (frame q tape) (q * j) (world_in tape j) (count q tape j) order (λ m. silence) m e ≡ value q tape (q * j + m) e

-- A quantum after two tapes of one past is the same in counts, values and parameters, and their pasts stay the same.
abbrev pub PastLaw : Type 0
PastLaw = (q : ℕ) → 0 < q → q ≤ 1024 → (w : World) (tape tape' : List World) → IsRegular q (tape ++ w ∷ []) → IsRegular q (tape' ++ w ∷ []) → past q tape ≡ past q tape' →
    ((e : End) → IsIn e (ends w.graph.value) → count q (tape ++ w ∷ []) (length tape) e ≡ count q (tape' ++ w ∷ []) (length tape) e)
    × ((f : ℕ) (e : End) → f / q ≡ length tape → IsIn e (ends w.graph.value) → value q (tape ++ w ∷ []) f e ≡ value q (tape' ++ w ∷ []) f e)
    × ((f : ℕ) (id : ParamId) → f / q ≡ length tape → id.node.0 < length w.graph.value.nodes → param_value q (tape ++ w ∷ []) f id ≡ param_value q (tape' ++ w ∷ []) f id)
    × (past q (tape ++ w ∷ []) ≡ past q (tape' ++ w ∷ []))

-- No sample hangs on when slots are set: a world sounds as it did, and two tapes whose worlds sound alike have the same counts, values and parameters.
abbrev pub SlotLaw : Type 0
SlotLaw = ((w : World) (first : ℕ) → sounding (with_params w (map (slot_set first) w.params.items)) ≡ sounding w)
    × ((q : ℕ) → 0 < q → q ≤ 1024 → (tape tape' : List World) → map sounding tape ≡ map sounding tape' →
    ((j : ℕ) → count q tape j ≡ count q tape' j)
    × ((f : ℕ) → value q tape f ≡ value q tape' f)
    × ((f : ℕ) (id : ParamId) → param_value q tape f id ≡ param_value q tape' f id))

-- how many frames a delay lasts at frame f of a tape
abbrev pub frames_back : ℕ → List World → ℕ → ℕ → ℕ
frames_back q tape f n = delay_frames q f (frames_before q tape f) (frame q tape f) n

-- What the reader of delay n asks for at frame f is kept: so many frames back lie among the last ones, as many as the delay keeps and a quantum has, once the writer has written its own quantum.
-- In a cycle it lies before this quantum. Where it is not before the delay's birth and the reader is not muted, the writer had no more channels then than the reader has now.
pub record IsAsked (q : ℕ) (tape : List World) (f n : ℕ) : Type 0 where
  pub kept : q * (f / q) + q ≤ f - frames_back q tape f n + (capacity_of (kind_of (world_at q tape f) n) + q)
  pub earlier : in_cycle (world_at q tape f).graph.value n ≡ true → (node_at (world_at q tape f) n).attrs.birth + frames_back q tape f n ≤ f → f - frames_back q tape f n < q * (f / q)
  pub channels : muted (world_at q tape f).graph.value (reader_of n) ≡ false → (node_at (world_at q tape f) n).attrs.birth + frames_back q tape f n ≤ f
      → count q tape ((f - frames_back q tape f n) / q) (writer_of n) ≤ count q tape (f / q) (reader_of n)

-- Of a regular tape each reader asks only for what its delay keeps.
abbrev pub ReachLaw : Type 0
ReachLaw = (q : ℕ) → 0 < q → q ≤ 1024 → (tape : List World) → IsRegular q tape → (f n : ℕ) → f / q < length tape → is_delay_kind (kind_of (world_at q tape f) n) ≡ true → IsAsked q tape f n
