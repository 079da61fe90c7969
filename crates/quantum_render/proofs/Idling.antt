-- The block of an end that is idle has what the end carries.
use Rattle.std.proofs.Common.{ℕ, zero, suc, ℤ, pos, ◌≡◌, ◌+◌, ◌*◌, ◌<◌, ◌≤◌, ◌⊎◌, inl, inr, List, [], map, slice_index_or, Bool, true, false, Option, Some, None, refl, sym, ◌∙◌, ap, arith, subst, FitsSigned}
use Rattle.std.specs.Int.{w32}
use mathlib.Core.Path.{fun_ext}
use Rattle.std.specs.Prelude.{All, if◌then◌else◌, nat_lt, nat_le}
use Rattle.std.specs.List.{list_any, range_with_len}
use Rattle.std.specs.Option.{option_map_or}
use Rattle.std.proofs.lemmas.Bool.Decides.{nat_tests}
use Rattle.wa_base.specs.Contexts.{quantum_of}
use Rattle.wa_base.specs.Numbers.{sat, scale}
use Rattle.wa_base.specs.declared.graph_names.End.{End}
use Rattle.wa_base.specs.declared.graph_names.Interp.{Interp}
use Rattle.wa_base.specs.declared.graph_names.ParamId.{ParamId}
use Rattle.wa_base.specs.declared.graph_names.ParamName.TheVariants as name
use Rattle.wa_base.specs.declared.contexts.ContextSpec.{ContextSpec}
use Rattle.law_base.specs.Members.{IsIn}
use Rattle.law_base.proofs.Rows.{next_quantum}
use Rattle.node_table.specs.Kinds.{outputs, is_delay_kind}
use Rattle.node_table.specs.declared.equation.Equation.{Equation}
use Rattle.node_table.specs.declared.kinds.Kind.{Kind}
use Rattle.node_table.specs.declared.kinds.Kind.TheVariants.{Destination, Constant, Buffer, Gain, Delay, Splitter, Merger, Shaper, Causal}
use Rattle.conn_graph.specs.declared.edges.Edge.{Edge}
use Rattle.conn_graph.specs.declared.edges.Target.TheVariants.{Input}
use Rattle.conn_graph.specs.Ends.{reader_of, ends}
use Rattle.conn_graph.specs.Graph.{edges_to_input}
use Rattle.conn_graph.proofs.EndLaws.{has_end}
use Rattle.mix_rules.specs.Mixing.{total}
use Rattle.meaning.specs.declared.world.World.{World}
use Rattle.sched_source.specs.Schedule.{Schedule, plays_at, plays_in, sample_at, played}
use Rattle.meaning.specs.declared.scheds.Play.{Play}
use Rattle.meaning.specs.World.{sounding, node_at, kind_of, param_id, find_play, channels_in, samples_in, sounds_at, played_at, played_channels}
use Rattle.meaning.specs.Counts.{input_channels, count_by_kind}
use Rattle.meaning.specs.Validity.{IsValid}
use Rattle.meaning.specs.Values.{Frame, part, mixed_sum, input_value, computed_value, value_by_kind}
use Rattle.automation.specs.Levels.{LevelView}
use Rattle.delay_bank.specs.Banks.{BankView as DelayBank}
use Rattle.quantum_blocks.specs.Blocks.{BlockView, at, carried, slot, block_of, counts_in, drafts_of, IsSilent, Writes}
use Rattle.quantum_blocks.specs.Connections.{into, leads_to}
use Rattle.quantum_blocks.specs.Fits.{AreFit}
use Rattle.quantum_blocks.proofs.Slots.{slot_is, lane_low}
use Rattle.quantum_blocks.proofs.Silence.{no_values, none_heard, silent_carried}
use Rattle.quantum_blocks.proofs.Sources.{input_sources, into_places}
use Rattle.quantum_render.specs.declared.memory.Memory.{Memory}
use Rattle.quantum_render.specs.Idle.{IsMarked, IsUnheard, IsQuiet, IsIdle, AreIdle, KeepBlocks, HasLevel, IsStill, IsStillGain, IsStillSource, StaysSilent}
use Rattle.quantum_render.specs.Plans.{AsCounted}
use Rattle.quantum_render.specs.Sites.{SiteView, IsSite}
use Rattle.quantum_render.specs.Renders.{Renders, IsRendered, past_of, here_of}
use Rattle.quantum_render.specs.Listening.{HasRooms}
use Rattle.quantum_render.specs.Stands.{RendererView, Rests}
use Rattle.quantum_render.proofs.Drawing.{draws_anyway, silence_scaled}
use Rattle.quantum_render.proofs.Rendering.{unstored}
use Rattle.quantum_render.proofs.Still.{lone_source, remembers_nothing, still_rendered}
use Rattle.quantum_render.proofs.Ports.{some_frames}

-- ---- what a silent block has

pub silent_drafts : (w : World) (counts : List ℕ) (blocks : List BlockView) → AreFit w counts blocks → (d : End) → IsIn d (ends w.graph.value) → IsSilent blocks d
    → (m : ℕ) → m < quantum_of w.spec → drafts_of blocks counts m d ≡ (λ o c. pos 0)
silent_drafts w counts blocks fit d in_d silent m l = fun_ext (λ o. silent_carried (block_of blocks d) (counts_in counts d) o m (λ lane low. silent lane m low (subst (λ n. m < n) (sym (fit.frames d in_d)) l)))

-- ---- frames

-- what does not sound does not sound in fewer frames
unheard_later : (w : World) (n from from' until until' : ℕ) → from ≤ from' → until' ≤ until → IsUnheard w n from until → IsUnheard w n from' until'
unheard_later w n from from' until until' low high none frame later before = none frame (omega (arith, low, later)) (omega (arith, high, before))

quiet_later : (w : World) (counts : List ℕ) (from from' until until' : ℕ) → from ≤ from' → until' ≤ until → (e : End) (kind : Kind) → IsQuiet w counts from until e kind → IsQuiet w counts from' until' e kind
quiet_later w counts from from' until until' low high e Destination is = tt
quiet_later w counts from from' until until' low high e (Constant offset) is = unheard_later w e.node.0 from from' until until' low high is
quiet_later w counts from from' until until' low high e (Buffer rate) is = (unheard_later w e.node.0 from from' until until' low high is.0, is.1)
quiet_later w counts from from' until until' low high e (Gain gain) is = tt
quiet_later w counts from from' until until' low high e (Delay longest time capacity) is = absurd is
quiet_later w counts from from' until until' low high e (Splitter ports) is = tt
quiet_later w counts from from' until until' low high e (Merger ports) is = tt
quiet_later w counts from from' until until' low high e (Shaper curve was) is = absurd is
quiet_later w counts from from' until until' low high e (Causal equation) is = absurd is

-- a block that is silent is so where another one is the same
silent_same : (b b' : BlockView) → b' ≡ b → ((lane m : ℕ) → lane < b.lanes → m < b.frames → at b lane m ≡ pos 0) → (lane m : ℕ) → lane < b'.lanes → m < b'.frames → at b' lane m ≡ pos 0
silent_same b b' same = subst (λ (x : BlockView). (lane m : ℕ) → lane < x.lanes → m < x.frames → at x lane m ≡ pos 0) (sym same)

-- in fewer frames, and with the blocks of later quanta
module _ (w : World) (valid : IsValid w) (counts : List ℕ) (from from' until until' : ℕ) (low : from ≤ from') (high : until' ≤ until) (marks : List Bool) (blocks blocks' : List BlockView) (keep : KeepBlocks w marks blocks blocks')
    (e : End) (there : IsIn e (ends w.graph.value)) (marked : IsMarked marks e) where
  abbrev source : ℕ → Edge → Edge
  source k d = slice_index_or (into w.graph.value e.node.0) k d

  silence_later : StaysSilent w counts from until marks blocks e → StaysSilent w counts from' until' marks blocks' e
  silence_later is = record {
    quiet = quiet_later w counts from from' until until' low high e (kind_of w e.node.0) is.quiet;
    heard = λ k d within.
        let heard = is.heard k d within in
        let in_source = has_end w.graph.value (source k d).from.0 (into_places w.graph.value e.node.0 valid.graph k d within).from in
        record { marked = heard.marked; silent = silent_same _ _ (keep (reader_of (source k d).from.0) in_source heard.marked) heard.silent };
    silent = silent_same _ _ (keep e there marked) is.silent;
  }

  level_later : (id : ParamId) (value : ℤ) → HasLevel w id from until value → HasLevel w id from' until' value
  level_later id value is first m up down now = is first m (omega (arith, low, up)) (omega (arith, high, down)) now

  source_later : IsStillSource w from until blocks e → IsStillSource w from' until' blocks' e
  source_later is = record {
    value = is.value;
    fits = is.fits;
    sounds = λ frame up down. is.sounds frame (omega (arith, low, up)) (omega (arith, high, down));
    alone = is.alone;
    level = level_later (param_id e.node.0 name.Offset) is.value is.level;
    held = subst (λ (b : BlockView). (lane m : ℕ) → lane < b.lanes → m < b.frames → at b lane m ≡ is.value) (sym (keep e there marked)) is.held;
  }

  gain_later : IsStillGain w counts from until marks blocks e → IsStillGain w counts from' until' marks blocks' e
  gain_later is =
      let own = keep e there marked in
      let heard = keep (reader_of is.edge.from.0) (lone_source w valid e.node.0 is.edge is.only) is.marked in
      record {
        gain = is.gain;
        fits = is.fits;
        edge = is.edge;
        only = is.only;
        leads = is.leads;
        marked = is.marked;
        count = is.count;
        level = level_later (param_id e.node.0 name.Gain) is.gain is.level;
        scaled = λ c m channel now. ap (λ (b : BlockView). at b c m) own ∙ is.scaled c m channel now ∙ ap (λ (b : BlockView). scale (carried b (counts_in counts e) is.edge.output m c) is.gain) (sym heard);
        fit = λ c m channel now. subst (λ (b : BlockView). FitsSigned w32 (carried b (counts_in counts e) is.edge.output m c)) (sym heard) (is.fit c m channel now);
      }

  still_later : (kind : Kind) → IsStill w counts from until marks blocks e kind → IsStill w counts from' until' marks blocks' e kind
  still_later Destination is = absurd is
  still_later (Constant offset) is = source_later is
  still_later (Buffer rate) is = absurd is
  still_later (Gain gain) is = gain_later is
  still_later (Delay longest time capacity) is = absurd is
  still_later (Splitter ports) is = absurd is
  still_later (Merger ports) is = absurd is
  still_later (Shaper curve was) is = absurd is
  still_later (Causal equation) is = absurd is

pub idle_later : (w : World) → IsValid w → (counts : List ℕ) (from from' until until' : ℕ) → from ≤ from' → until' ≤ until → (marks : List Bool) (blocks blocks' : List BlockView) → AreIdle w counts from until marks blocks
    → KeepBlocks w marks blocks blocks' → AreIdle w counts from' until' marks blocks'
idle_later w valid counts from from' until until' low high marks blocks blocks' are keep e in_e marked =
    let is = are e in_e marked in
    record {
      unmuted = is.unmuted;
      why = elim is.why [
        | inl silent ↦ inl (silence_later w valid counts from from' until until' low high marks blocks blocks' keep e in_e marked silent)
        | inr still ↦ inr (still_later w valid counts from from' until until' low high marks blocks blocks' keep e in_e marked (kind_of w e.node.0) still)
      ];
    }

-- where no end has a mark, each that has one is idle
pub none_idle : (w : World) (counts : List ℕ) (from until : ℕ) (blocks : List BlockView) → AreIdle w counts from until [] blocks
none_idle w counts from until blocks e in_e marked = absurd cc

-- ---- what an idle end carries

not_delay : (w : World) (counts : List ℕ) (from until : ℕ) (e : End) (kind : Kind) → IsQuiet w counts from until e kind → is_delay_kind kind ≡ false
not_delay w counts from until e Destination is = refl
not_delay w counts from until e (Constant offset) is = refl
not_delay w counts from until e (Buffer rate) is = refl
not_delay w counts from until e (Gain gain) is = refl
not_delay w counts from until e (Delay longest time capacity) is = absurd is
not_delay w counts from until e (Splitter ports) is = refl
not_delay w counts from until e (Merger ports) is = refl
not_delay w counts from until e (Shaper curve was) is = absurd is
not_delay w counts from until e (Causal equation) is = absurd is

-- what does not sound plays nothing
unplayed : (w : World) (n c frame : ℕ) → sounds_at w n frame ≡ false → played_at w n c frame ≡ pos 0
unplayed w n c frame none = by_play (find_play w.scheds.items n) none
  where
    by_play : (o : Option Play) → option_map_or (λ (p : Play). plays_at p.sched frame) o false ≡ false → option_map_or (λ (p : Play). played p.sched (samples_in w.store p.buffer c) frame) o (pos 0) ≡ pos 0
    by_play None is = refl
    by_play (Some p) is = ap (λ b. if b then sample_at p.sched.content p.sched.start (samples_in w.store p.buffer c) frame else pos 0) is

-- ---- silence

module _ (w : World) (valid : IsValid w) (counts : List ℕ) (from until : ℕ) (marks : List Bool) (blocks : List BlockView) (fit : AreFit w counts blocks) (e : End) (there : IsIn e (ends w.graph.value))
    (is : StaysSilent w counts from until marks blocks e) where
  abbrev q : ℕ
  q = quantum_of w.spec

  abbrev n : ℕ
  n = e.node.0

  module _ (first : ℕ) (edges : List Edge) (levels : List LevelView) (later : List BlockView) (low : from ≤ first) (next : first + q ≤ until) (still : AreFit w counts later) (kept : KeepBlocks w marks blocks later) where
    abbrev s : SiteView
    s = record { world = w; end = e; into = edges; counts = counts; levels = levels; first = first }

    -- what it hears is silent
    sources : (m : ℕ) → m < q → All (λ (x : Edge). (here_of s later m).values (reader_of x.from.0) x.output ≡ no_values) (into w.graph.value n)
    sources m l k d within =
        let x : Edge = slice_index_or (into w.graph.value n) k d in
        let heard = is.heard k d within in
        let in_x = has_end w.graph.value x.from.0 (into_places w.graph.value n valid.graph k d within).from in
        ap (λ (v : ℕ → ℕ → ℤ). v x.output) (silent_drafts w counts later still (reader_of x.from.0) in_x
        (subst (λ (b : BlockView). (lane j : ℕ) → lane < b.lanes → j < b.frames → at b lane j ≡ pos 0) (sym (kept (reader_of x.from.0) in_x heard.marked)) heard.silent) m l)

    input_none : (i c m : ℕ) → m < q → input_value (here_of s later m) n i c ≡ pos 0
    unfolding input_value
    input_none i c m l = by_channel (nat_lt c (input_channels (sounding w) (counts_in counts) n i))
      where
        x : Frame
        x = here_of s later m

        interp : Interp
        interp = (node_at w n).attrs.interp

        to : ℕ
        to = input_channels (sounding w) (counts_in counts) n i

        sum : total (map (part x interp to c) (edges_to_input w.graph.value n i)) ≡ pos 0
        sum = ap (λ (es : List Edge). total (map (part x interp to c) es)) (sym (input_sources w.graph.value n i)) ∙ none_heard x interp to c (leads_to (Input (record { 0 = n }) i)) (into w.graph.value n) (sources m l)

        by_channel : (b : Bool) → (if b then mixed_sum x interp to c (edges_to_input w.graph.value n i) else pos 0) ≡ pos 0
        by_channel true = ap sat sum
        by_channel false = refl

    module _ (before : ℕ → Frame) (o c m : ℕ) (now : m < q) where
      carried_none : (kind : Kind) → IsQuiet w counts from until e kind → value_by_kind q (first + m) (past_of s later before) (here_of s later m) kind e o c ≡ pos 0
      carried_none Destination quiet = input_none 0 c m now
      carried_none (Constant offset) quiet =
          ap (λ b. if b then computed_value q (first + m) (past_of s later before) (here_of s later m) (param_id n name.Offset) else pos 0) (quiet (first + m) (omega (arith, low)) (omega (arith, now, next)))
      carried_none (Buffer rate) quiet = unplayed w n c (first + m) (quiet.0 (first + m) (omega (arith, low)) (omega (arith, now, next)))
      carried_none (Gain gain) quiet =
          let level = computed_value q (first + m) (past_of s later before) (here_of s later m) (param_id n name.Gain) in
          ap (λ v. scale v level) (input_none 0 c m now) ∙ sym (silence_scaled level)
      carried_none (Delay longest time capacity) quiet = absurd quiet
      carried_none (Splitter ports) quiet = input_none 0 o m now
      carried_none (Merger ports) quiet = input_none c 0 m now
      carried_none (Shaper curve was) quiet = absurd quiet
      carried_none (Causal equation) quiet = absurd quiet

    pub silence_rendered : Renders s later (block_of blocks e) (kind_of w n)
    silence_rendered = record {
      lanes = fit.lanes e there;
      frames = fit.frames e there;
      values = λ j earlier begins counted before o c m output channel now.
          is.silent (o * counts_in counts e + c) m (subst (λ k. o * counts_in counts e + c < k) (sym (fit.lanes e there)) (lane_low o (outputs (kind_of w n)) (counts_in counts e) c output channel))
          (subst (λ k. m < k) (sym (fit.frames e there)) now)
          ∙ sym (carried_none before o c m now (kind_of w n) is.quiet);
    }

-- ---- an idle end in a quantum

-- nothing has to be done for it
pub idle_rendered : (w : World) (x : End) (edges : List Edge) (counts : List ℕ) (levels : List LevelView) (first : ℕ) → IsSite w x edges counts levels first → (blocks : List BlockView) → AreFit w counts blocks
    → (marks : List Bool) → AreIdle w counts first (first + quantum_of w.spec) marks blocks → IsMarked marks x → (memory : Memory) → HasRooms memory w counts
    → IsRendered (record { world = w; end = x; into = edges; counts = counts; levels = levels; first = first }) blocks blocks memory memory
idle_rendered w x edges counts levels first site blocks fit marks are marked memory rooms =
    let s : SiteView = record { world = w; end = x; into = edges; counts = counts; levels = levels; first = first } in
    let is = are x site.there marked in
    let valid = site.quantum.valid in
    let n : ℕ = x.node.0 in
    let until : ℕ = first + quantum_of w.spec in
    let renders : Renders s blocks (block_of blocks x) (kind_of w n) = elim is.why [
      | inl silent ↦ silence_rendered w valid counts first until marks blocks fit x site.there silent first edges levels blocks (omega arith) (omega arith) fit (λ d in_d m. refl)
      | inr still ↦ still_rendered w valid counts site.quantum.range first until marks blocks fit x site.there first edges levels blocks site.quantum.begun (omega arith) (omega arith) (λ d in_d m. refl) (kind_of w n) refl still
    ] in
    let plain : (is_delay_kind (kind_of w n) ≡ false) × ((equation : Equation) → kind_of w n ≡ Causal equation → ⊥) = elim is.why [
      | inl silent ↦ (not_delay w counts first until x (kind_of w n) silent.quiet, λ equation kind. subst (IsQuiet w counts first until x) kind silent.quiet)
      | inr still ↦ (let nothing = remembers_nothing w valid counts site.quantum.range first until marks blocks fit x site.there (kind_of w n) still in (nothing.0, nothing.1))
    ] in
    record {
      draws = draws_anyway s memory blocks blocks (record { writes = record { lanes = refl; frames = refl; others = λ d apart. refl }; renders = renders });
      listens = record {
        known = refl;
        count = refl;
        others = λ k apart. refl;
        own = λ equation kind j earlier begins counted before ready. absurd (plain.1 equation kind);
      };
      stores = unstored s site plain.0 (block_of blocks x) memory.delays;
      rooms = rooms;
    }

-- where an end without a mark is written, those with one keep their blocks
pub block_kept : (blocks blocks' : List BlockView) (marks : List Bool) (x d : End) → Writes blocks blocks' x → slice_index_or marks (slot x) false ≡ false → IsMarked marks d → block_of blocks' d ≡ block_of blocks d
block_kept blocks blocks' marks x d writes unmarked marked =
    writes.others d (λ same. let on : slice_index_or marks (slot x) false ≡ true = subst (λ (e : End). IsMarked marks e) same marked in cc)

-- what is still is so with more marks
still_more : (w : World) (counts : List ℕ) (from until : ℕ) (marks marks' : List Bool) (blocks : List BlockView) (e : End) → ((d : End) → IsMarked marks d → IsMarked marks' d) → (kind : Kind) → IsStill w counts from until marks blocks e kind
    → IsStill w counts from until marks' blocks e kind
still_more w counts from until marks marks' blocks e kept Destination is = absurd is
still_more w counts from until marks marks' blocks e kept (Constant offset) is = is
still_more w counts from until marks marks' blocks e kept (Buffer rate) is = absurd is
still_more w counts from until marks marks' blocks e kept (Gain gain) is = record {
  gain = is.gain;
  fits = is.fits;
  edge = is.edge;
  only = is.only;
  leads = is.leads;
  marked = kept (reader_of is.edge.from.0) is.marked;
  count = is.count;
  level = is.level;
  scaled = is.scaled;
  fit = is.fit;
}
still_more w counts from until marks marks' blocks e kept (Delay longest time capacity) is = absurd is
still_more w counts from until marks marks' blocks e kept (Splitter ports) is = absurd is
still_more w counts from until marks marks' blocks e kept (Merger ports) is = absurd is
still_more w counts from until marks marks' blocks e kept (Shaper curve was) is = absurd is
still_more w counts from until marks marks' blocks e kept (Causal equation) is = absurd is

-- an end that is idle gets a mark too
pub one_more_idle : (w : World) (counts : List ℕ) (from until : ℕ) (marks marks' : List Bool) (blocks : List BlockView) (x : End) → AreIdle w counts from until marks blocks → IsIdle w counts from until marks blocks x
    → ((d : End) → IsMarked marks d → IsMarked marks' d) → ((d : End) → IsMarked marks' d → IsMarked marks d ⊎ (slot d ≡ slot x)) → AreIdle w counts from until marks' blocks
one_more_idle w counts from until marks marks' blocks x are own kept marked e in_e is = elim (marked e is) [
  | inl was ↦ more e (are e in_e was)
  | inr same ↦ subst (IsIdle w counts from until marks' blocks) (sym (slot_is e x same)) (more x own)
]
  where
    more : (d : End) → IsIdle w counts from until marks blocks d → IsIdle w counts from until marks' blocks d
    more d is = record {
      unmuted = is.unmuted;
      why = elim is.why [
        | inl silent ↦ inl (record {
          quiet = silent.quiet;
          heard = λ k i l. let heard = silent.heard k i l in record { marked = kept (reader_of (slice_index_or (into w.graph.value d.node.0) k i).from.0) heard.marked; silent = heard.silent };
          silent = silent.silent;
        })
        | inr still ↦ inr (still_more w counts from until marks marks' blocks d kept (kind_of w d.node.0) still)
      ];
    }

-- ---- how many channels it has

silent_run : (sched : Schedule) (count first : ℕ) → ((frame : ℕ) → first ≤ frame → frame < first + count → plays_at sched frame ≡ false) → list_any (plays_at sched) (range_with_len first count) ≡ false
silent_run sched zero first none = refl
silent_run sched (suc count) first none =
    let here = none first (omega arith) (omega arith) in
    let later = silent_run sched count (first + 1) (λ frame low high. none frame (omega arith) (omega arith)) in
    grind (arith, here, later)

-- what does not sound in a quantum has one channel there
unplayed_channels : (w : World) (n count first until : ℕ) → first + count ≤ until → IsUnheard w n first until → played_channels w n count first ≡ 1
unfolding plays_in
unplayed_channels w n count first until within none = by_play (find_play w.scheds.items n) none
  where
    by_play : (o : Option Play) → ((frame : ℕ) → first ≤ frame → frame < until → option_map_or (λ (p : Play). plays_at p.sched frame) o false ≡ false)
        → option_map_or (λ (p : Play). if plays_in count p.sched first then channels_in w.store p.buffer else 1) o 1 ≡ 1
    by_play None each = refl
    by_play (Some p) each = ap (λ b. if b then channels_in w.store p.buffer else 1) (silent_run p.sched count first (λ frame low high. each frame low (omega (arith, high, within))))

-- so an idle end that plays a buffer has the channels that it is counted to have
pub idle_counted : (w : World) (delays : DelayBank) (counts : List ℕ) (first : ℕ) (marks : List Bool) (blocks : List BlockView) → AreIdle w counts first (first + quantum_of w.spec) marks blocks
    → (d : End) → IsIn d (ends w.graph.value) → IsMarked marks d → (rate : ℕ) → kind_of w d.node.0 ≡ Buffer rate → AsCounted delays w first counts d
idle_counted w delays counts first marks blocks are d in_d marked rate is j earlier begins most =
    let quiet : IsUnheard w d.node.0 first (first + quantum_of w.spec) × (counts_in counts d ≡ 1) = elim (are d in_d marked).why [
      | inl silent ↦ subst (IsQuiet w counts first (first + quantum_of w.spec) d) is silent.quiet
      | inr still ↦ absurd (subst (IsStill w counts first (first + quantum_of w.spec) marks blocks d) is still)
    ] in
    quiet.1
    ∙ sym (unplayed_channels w d.node.0 (quantum_of w.spec) first (first + quantum_of w.spec) (omega arith) quiet.0)
    ∙ ap (played_channels w d.node.0 (quantum_of w.spec)) begins
    ∙ ap (λ kind. count_by_kind (quantum_of w.spec) (sounding w) j earlier (counts_in counts) kind d) (sym is)

-- ---- a renderer that knows nothing of idle ends

pub wakes : (r : RendererView) (w : World) → IsValid w → r.spec ≡ w.spec → r.rest.until ≡ 0 → Rests r w
wakes r w valid spec none known =
    let size : quantum_of r.spec ≡ quantum_of w.spec = ap (λ (s : ContextSpec). quantum_of s) spec in
    let some = some_frames w valid in
    let more = next_quantum (quantum_of r.spec) r.quanta in
    absurd (omega (arith, size, some, more, none, known))

-- ---- what a renderer knows of a quantum

module _ (r : RendererView) (w : World) (valid : IsValid w) (spec : r.spec ≡ w.spec) (rests : Rests r w) (first : ℕ) (begins : first ≡ quantum_of r.spec * r.quanta) where
  size : quantum_of r.spec ≡ quantum_of w.spec
  size = ap (λ (s : ContextSpec). quantum_of s) spec

  begun : AreIdle w r.counts (quantum_of r.spec * r.quanta) r.rest.until r.rest.marks r.blocks → AreIdle w r.counts first r.rest.until r.rest.marks r.blocks
  begun are = subst (λ f. AreIdle w r.counts f r.rest.until r.rest.marks r.blocks) (sym begins) are

  pub idle_now : AreIdle w r.counts first (first + quantum_of w.spec) (if nat_le (first + quantum_of r.spec) r.rest.until then r.rest.marks else []) r.blocks
  idle_now = by_test (nat_le (first + quantum_of r.spec) r.rest.until) refl
    where
      by_test : (b : Bool) → nat_le (first + quantum_of r.spec) r.rest.until ≡ b → AreIdle w r.counts first (first + quantum_of w.spec) (if b then r.rest.marks else []) r.blocks
      by_test true t =
          let more = next_quantum (quantum_of r.spec) r.quanta in
          let known : first + quantum_of r.spec ≤ r.rest.until = grind (arith, nat_tests) in
          let are = begun (rests (omega (arith, begins, more, known))) in
          idle_later w valid r.counts first first r.rest.until (first + quantum_of w.spec) (omega arith) (omega (arith, size, known)) r.rest.marks r.blocks r.blocks are (λ d in_d marked. refl)
      by_test false t = none_idle w r.counts first (first + quantum_of w.spec) r.blocks

  -- and of those behind it, where the ends with a mark keep their blocks
  pub idle_after : (marks : List Bool) → marks ≡ (if nat_le (first + quantum_of r.spec) r.rest.until then r.rest.marks else []) → (blocks : List BlockView) → KeepBlocks w marks r.blocks blocks
      → quantum_of r.spec * (r.quanta + 1 + 1) ≤ r.rest.until → AreIdle w r.counts (quantum_of r.spec * (r.quanta + 1)) r.rest.until r.rest.marks blocks
  idle_after marks is blocks kept known =
      let more = next_quantum (quantum_of r.spec) r.quanta in
      let last = next_quantum (quantum_of r.spec) (r.quanta + 1) in
      let before : quantum_of r.spec * (r.quanta + 1) ≤ r.rest.until = omega (arith, last, known) in
      let test : nat_le (first + quantum_of r.spec) r.rest.until ≡ true = let e = begins in let m = more in let k = before in grind (arith, nat_tests) in
      let same : marks ≡ r.rest.marks = is ∙ ap (λ b. if b then r.rest.marks else []) test in
      idle_later w valid r.counts (quantum_of r.spec * r.quanta) (quantum_of r.spec * (r.quanta + 1)) r.rest.until r.rest.until (omega (arith, more)) (omega arith) r.rest.marks r.blocks blocks (rests before)
      (subst (λ (ms : List Bool). KeepBlocks w ms r.blocks blocks) same kept)
