-- The block of an end that carries the same value at all frames has that value.
use Rattle.std.proofs.Common.{ℕ, ℤ, pos, ◌≡◌, ◌+◌, ◌<◌, ◌≤◌, List, slice_index_or, Bool, true, false, Some, refl, sym, ◌∙◌, ap, ap₂, arith, subst, FitsSigned, [], ◌∷◌}
use Rattle.std.specs.Int.{w32}
use Rattle.std.specs.Prelude.{if◌then◌else◌, ◌||◌}
use Rattle.std.specs.List.{list_any}
use Rattle.std.proofs.Math.IntN.{+ℤ_idr}
use Rattle.wa_base.specs.Contexts.{quantum_of}
use Rattle.wa_base.specs.Numbers.{sat, scale}
use Rattle.wa_base.specs.declared.graph_names.End.{End}
use Rattle.wa_base.specs.declared.graph_names.ParamId.{ParamId}
use Rattle.wa_base.specs.declared.graph_names.ParamName.TheVariants as name
use Rattle.law_base.specs.Members.{IsIn}
use Rattle.node_table.specs.declared.rows.ParamRow.{ParamRow}
use Rattle.node_table.specs.declared.rows.Range.TheVariants.{Any}
use Rattle.node_table.specs.Kinds.{row, is_delay_kind}
use Rattle.node_table.specs.declared.equation.Equation.{Equation}
use Rattle.node_table.specs.declared.kinds.Kind.{Kind}
use Rattle.node_table.specs.declared.kinds.Kind.TheVariants.{Destination, Constant, Buffer, Gain, Delay, Splitter, Merger, Shaper, Causal}
use Rattle.conn_graph.specs.declared.edges.Edge.{Edge}
use Rattle.conn_graph.specs.declared.edges.Target.{Target}
use Rattle.conn_graph.specs.declared.edges.Target.TheVariants.{Input, Param}
use Rattle.conn_graph.specs.Edges.{same_target}
use Rattle.conn_graph.specs.Ends.{reader_of, ends}
use Rattle.conn_graph.proofs.EndLaws.{has_end}
use Rattle.automation.specs.Levels.{LevelView}
use Rattle.meaning.specs.declared.world.World.{World}
use Rattle.meaning.specs.World.{sounding, kind_of, param_id, is_k_rate}
use Rattle.meaning.specs.Validity.{IsValid}
use Rattle.meaning.specs.Values.{Frame, computed_value}
use Rattle.quantum_blocks.specs.Blocks.{BlockView, carried, block_of, counts_in}
use Rattle.quantum_blocks.specs.Connections.{into, leads_to, no_edge}
use Rattle.quantum_blocks.specs.Fits.{AreInRange, AreFit}
use Rattle.quantum_blocks.proofs.Sources.{into_places}
use Rattle.quantum_render.specs.Idle.{KeepBlocks, HasLevel, IsStill, IsStillSource, IsStillGain}
use Rattle.quantum_render.specs.Sites.{SiteView, IsBegun}
use Rattle.quantum_render.specs.Renders.{Renders, past_of, here_of}
use Rattle.quantum_render.proofs.InputLaws.{sat_of_fix, lone_input}
use Rattle.quantum_render.proofs.LevelLaws.{level_unreached, unclamped_is, computed_is}
use Rattle.quantum_render.proofs.Rendering.{lanes_own, renders_own}

-- what leads to an input leads to no parameter
no_param : (n i : ℕ) (id : ParamId) (t : Target) → same_target (Input (record { 0 = n }) i) t ≡ true → same_target (Param id) t ≡ false
no_param n i id (Input node input) leads = refl
no_param n i id (Param other) leads = absurd cc

-- the end from which a lone connection comes
pub lone_source : (w : World) → IsValid w → (n : ℕ) (edge : Edge) → into w.graph.value n ≡ edge ∷ [] → IsIn (reader_of edge.from.0) (ends w.graph.value)
lone_source w valid n edge only =
    subst (λ (x : Edge). IsIn (reader_of x.from.0) (ends w.graph.value)) (ap (λ (es : List Edge). slice_index_or es 0 no_edge) only)
    (has_end w.graph.value _ (into_places w.graph.value n valid.graph 0 no_edge (rw only (omega arith))).from)

module _ (w : World) (valid : IsValid w) (counts : List ℕ) (range : AreInRange w counts) (from until : ℕ) (marks : List Bool) (blocks : List BlockView) (fit : AreFit w counts blocks) (e : End) (there : IsIn e (ends w.graph.value)) where
  abbrev q : ℕ
  q = quantum_of w.spec

  abbrev n : ℕ
  n = e.node.0

  module _ (first : ℕ) (edges : List Edge) (levels : List LevelView) (later : List BlockView) (begun : IsBegun q first) (low : from ≤ first) (next : first + q ≤ until) (kept : KeepBlocks w marks blocks later) where
    abbrev s : SiteView
    s = record { world = w; end = e; into = edges; counts = counts; levels = levels; first = first }

    -- a level that stays, and to which nothing leads, is the value of its parameter
    computed_level : (id : ParamId) (p : ParamRow) → (row (kind_of w id.node.0)).param ≡ Some p → p.range ≡ Any → (value : ℤ) → FitsSigned w32 value → HasLevel w id from until value
        → list_any (leads_to (Param id)) (into w.graph.value id.node.0) ≡ false → (before : ℕ → Frame) (m : ℕ) → m < q → value ≡ computed_value q (first + m) (past_of s later before) (here_of s later m) id
    computed_level id p is any value fits level none before m now =
        sym (sat_of_fix value fits)
        ∙ ap sat (sym (+ℤ_idr value))
        ∙ level_unreached (sounding w) later counts id first m (into w.graph.value id.node.0) value (is_k_rate (sounding w) id) now refl (level first m low next now) refl none
        ∙ unclamped_is (sounding w) later counts before first m begun now id
        ∙ computed_is q (first + m) (past_of s later before) (here_of s later m) id p is any

    source_rendered : (offset : ℤ) → kind_of w n ≡ Constant offset → IsStillSource w from until blocks e → Renders s later (block_of blocks e) (kind_of w n)
    source_rendered offset kind is =
        let lanes = lanes_own s (Constant offset) kind refl (block_of blocks e) (fit.lanes e there) in
        let frames = fit.frames e there in
        renders_own s (Constant offset) kind refl later (block_of blocks e) lanes frames (λ j earlier begins counted before c m channel now.
        is.held c m (subst (λ k. c < k) (sym lanes) channel) (subst (λ k. m < k) (sym frames) now)
        ∙ computed_level (param_id n name.Offset) _ (ap (λ k. (row k).param) kind) refl is.value is.fits is.level (ap (list_any (leads_to (Param (param_id n name.Offset)))) is.alone) before m now
        ∙ ap (λ b. if b then computed_value q (first + m) (past_of s later before) (here_of s later m) (param_id n name.Offset) else pos 0) (sym (is.sounds (first + m) (omega (arith, low)) (omega (arith, now, next)))))

    gain_rendered : (gain : ℤ) → kind_of w n ≡ Gain gain → IsStillGain w counts from until marks blocks e → Renders s later (block_of blocks e) (kind_of w n)
    gain_rendered gain kind is =
        let lanes = lanes_own s (Gain gain) kind refl (block_of blocks e) (fit.lanes e there) in
        let frames = fit.frames e there in
        let same = kept (reader_of is.edge.from.0) (lone_source w valid n is.edge is.only) is.marked in
        let none = ap (list_any (leads_to (Param (param_id n name.Gain)))) is.only ∙ ap (λ b. b || false) (no_param n 0 (param_id n name.Gain) is.edge.to is.leads) in
        renders_own s (Gain gain) kind refl later (block_of blocks e) lanes frames (λ j earlier begins counted before c m channel now.
        is.scaled c m channel now
        ∙ ap₂ scale
        (lone_input w later counts n 0 c m (counts_in counts e) channel (into w.graph.value n) refl counted is.edge (carried (block_of blocks (reader_of is.edge.from.0)) (counts_in counts e) is.edge.output m c) is.only is.leads is.count
        (is.fit c m channel now) (ap (λ (b : BlockView). carried b (counts_in counts e) is.edge.output m c) (sym same)))
        (computed_level (param_id n name.Gain) _ (ap (λ k. (row k).param) kind) refl is.gain is.fits is.level none before m now))

    pub still_rendered : (kind : Kind) → kind_of w n ≡ kind → IsStill w counts from until marks blocks e kind → Renders s later (block_of blocks e) (kind_of w n)
    still_rendered Destination kind is = absurd is
    still_rendered (Constant offset) kind is = source_rendered offset kind is
    still_rendered (Buffer rate) kind is = absurd is
    still_rendered (Gain gain) kind is = gain_rendered gain kind is
    still_rendered (Delay longest time capacity) kind is = absurd is
    still_rendered (Splitter ports) kind is = absurd is
    still_rendered (Merger ports) kind is = absurd is
    still_rendered (Shaper curve was) kind is = absurd is
    still_rendered (Causal equation) kind is = absurd is

  pub remembers_nothing : (kind : Kind) → IsStill w counts from until marks blocks e kind → (is_delay_kind kind ≡ false) × ((equation : Equation) → kind ≡ Causal equation → ⊥) × ((rate : ℕ) → kind ≡ Buffer rate → ⊥)
  remembers_nothing Destination is = absurd is
  remembers_nothing (Constant offset) is = (refl, (λ equation same. absurd cc), (λ rate same. absurd cc))
  remembers_nothing (Buffer rate) is = absurd is
  remembers_nothing (Gain gain) is = (refl, (λ equation same. absurd cc), (λ rate same. absurd cc))
  remembers_nothing (Delay longest time capacity) is = absurd is
  remembers_nothing (Splitter ports) is = absurd is
  remembers_nothing (Merger ports) is = absurd is
  remembers_nothing (Shaper curve was) is = absurd is
  remembers_nothing (Causal equation) is = absurd is
