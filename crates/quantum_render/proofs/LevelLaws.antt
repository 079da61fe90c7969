-- The level of a parameter, from what its connections carry.
use Rattle.std.specs.Option.{option_map_or}
use Rattle.std.proofs.Common.{ℕ, ℤ, pos, negsuc, ◌≡◌, ◌+◌, ◌-◌, ◌*◌, ◌/◌, ◌<◌, ◌+ℤ◌, List, [], ◌∷◌, map, filter, Bool, true, false, cond, ◌||◌, refl, sym, ◌∙◌, ap, arith, Some}
use Rattle.std.specs.Prelude.{if◌then◌else◌, nat_lt, ◌==◌}
use Rattle.std.proofs.lemmas.Bool.Decides.{nat_tests}
use Rattle.std.proofs.lemmas.Int.{ints}
use Rattle.std.specs.List.{list_any}
use Rattle.wa_base.specs.Contexts.{quantum_of}
use Rattle.wa_base.specs.Numbers.{sat, IsFix}
use Rattle.wa_base.specs.declared.graph_names.Interp.TheVariants.{Speakers}
use Rattle.wa_base.specs.declared.graph_names.ParamId.{ParamId}
use Rattle.mix_rules.specs.Mixing.{total}
use Rattle.conn_graph.specs.declared.edges.Edge.{Edge}
use Rattle.conn_graph.specs.declared.edges.Target.{Target}
use Rattle.conn_graph.specs.declared.edges.Target.TheVariants.{Param}
use Rattle.conn_graph.specs.Graph.{edges_to_param}
use Rattle.node_table.specs.declared.rows.ParamRow.{ParamRow}
use Rattle.node_table.specs.declared.rows.Range.TheVariants.{Any, UpTo}
use Rattle.node_table.specs.Kinds.{row}
use Rattle.meaning.specs.declared.world.World.{World}
use Rattle.meaning.specs.World.{kind_of, intrinsic_value, is_k_rate, up_to, in_range}
use Rattle.meaning.specs.Values.{Frame, seen, part, mixed_sum, computed_value}
use Rattle.meaning.specs.Blocks.{with_drafts, drafted}
use Rattle.quantum_blocks.specs.Blocks.{BlockView, counts_in, drafts_of, frame_of}
use Rattle.quantum_blocks.specs.Connections.{into, leads_to}
use Rattle.quantum_render.specs.Parameters.{unclamped_value}
use Rattle.quantum_render.specs.Sites.{IsBegun}
use Rattle.quantum_blocks.proofs.Sources.{param_sources}
use Rattle.law_base.proofs.Rows.{quantum_at}

-- the frame of the quantum at which a parameter is taken: at k-rate the first one
abbrev pub taken_at : World → ParamId → ℕ → ℕ
taken_at w id m = if is_k_rate w id then 0 else m

-- the level at frame m of the quantum that begins at `first`, from the blocks alone
abbrev pub level_of : World → List BlockView → List ℕ → ParamId → ℕ → ℕ → ℤ
level_of w blocks counts id first m =
    let k = taken_at w id m in
    sat (intrinsic_value w id (first + k) +ℤ mixed_sum (frame_of w blocks counts k) Speakers 1 0 (edges_to_param w.graph.value id))

taken_low : (q : ℕ) (w : World) (id : ParamId) (m : ℕ) → m < q → taken_at w id m < q
taken_low q w id m l = by_rate (is_k_rate w id)
  where
    by_rate : (b : Bool) → (if b then 0 else m) < q
    by_rate true = omega arith
    by_rate false = l

-- from one sum for each frame, of which the one that is taken is used
pub level_is : (w : World) (blocks : List BlockView) (counts : List ℕ) (id : ParamId) (first m : ℕ) (edges : List Edge) (sums : ℕ → ℤ) (value : ℤ) (b : Bool) → m < quantum_of w.spec
    → edges ≡ into w.graph.value id.node.0
    → intrinsic_value w id (first + taken_at w id m) ≡ value
    → is_k_rate w id ≡ b
    → ((k : ℕ) → k < quantum_of w.spec → sums k ≡ total (map (part (frame_of w blocks counts k) Speakers 1 0) (filter (leads_to (Param id)) edges)))
    → sat (value +ℤ sat (sums (if b then 0 else m))) ≡ level_of w blocks counts id first m
level_is w blocks counts id first m edges sums value b l here intrinsic rate each =
    let k : ℕ = taken_at w id m in
    let carried = each k (taken_low (quantum_of w.spec) w id m l) in
    let sources = ap (λ es. filter (leads_to (Param id)) es) here ∙ param_sources w.graph.value id in
    ap (λ (r : Bool). sat (value +ℤ sat (sums (if r then 0 else m)))) (sym rate)
    ∙ ap (λ x. sat (value +ℤ sat x)) (carried ∙ ap (λ es. total (map (part (frame_of w blocks counts k) Speakers 1 0) es)) sources)
    ∙ ap (λ x. sat (x +ℤ mixed_sum (frame_of w blocks counts k) Speakers 1 0 (filter (λ e. leads_to (Param id) e) w.graph.value.edges))) (sym intrinsic)

-- without a connection to a target nothing leads to it
pub unreached : (target : Target) (es : List Edge) → list_any (leads_to target) es ≡ false → filter (leads_to target) es ≡ []
unreached target [] h = refl
unreached target (e ∷ es) h = by_test (leads_to target e) h (unreached target es)
  where
    by_test : (b : Bool) → (b || list_any (leads_to target) es) ≡ false → (list_any (leads_to target) es ≡ false → filter (leads_to target) es ≡ []) → cond b (e ∷ filter (leads_to target) es) (filter (leads_to target) es) ≡ []
    by_test true k below = absurd cc
    by_test false k below = below k

-- then the level is the intrinsic value
pub level_unreached : (w : World) (blocks : List BlockView) (counts : List ℕ) (id : ParamId) (first m : ℕ) (edges : List Edge) (value : ℤ) (b : Bool) → m < quantum_of w.spec
    → edges ≡ into w.graph.value id.node.0
    → intrinsic_value w id (first + taken_at w id m) ≡ value
    → is_k_rate w id ≡ b
    → list_any (leads_to (Param id)) edges ≡ false
    → sat (value +ℤ sat (pos 0)) ≡ level_of w blocks counts id first m
level_unreached w blocks counts id first m edges value b l here intrinsic rate none =
    level_is w blocks counts id first m edges (λ k. pos 0) value b l here intrinsic rate
    (λ k low. ap (λ es. total (map (part (frame_of w blocks counts k) Speakers 1 0) es)) (sym (unreached (Param id) edges none)))

-- ---- the level is the parameter's value before it is clamped, whatever the frames before the quantum were

module _ (w : World) (blocks : List BlockView) (counts : List ℕ) (before : ℕ → Frame) (first m : ℕ) (begun : IsBegun (quantum_of w.spec) first) (l : m < quantum_of w.spec) where
  abbrev q : ℕ
  q = quantum_of w.spec

  abbrev past : ℕ → Frame
  past = with_drafts before first w (counts_in counts) (drafts_of blocks counts)

  abbrev here : Frame
  here = frame_of w blocks counts m

  quantum_first : q * ((first + m) / q) ≡ first
  quantum_first = ap (λ f. q * ((f + m) / q)) (sym begun.whole) ∙ ap (λ k. q * k) (quantum_at q (first / q) m l) ∙ begun.whole

  -- the first frame of the quantum, as frame m of it sees it
  seen_first : seen (first + m) past here first ≡ frame_of w blocks counts 0
  seen_first = by_test (first == first + m) refl
    where
      by_test : (b : Bool) → (first == first + m) ≡ b → (if b then here else past first) ≡ frame_of w blocks counts 0
      by_test true same = let none : m ≡ 0 = grind (arith, nat_tests) in ap (frame_of w blocks counts) none
      by_test false other =
          let not_before : nat_lt first first ≡ false = grind (arith, nat_tests) in
          let none : first - first ≡ 0 = omega arith in
          ap (λ b. if b then before first else drafted w (counts_in counts) (drafts_of blocks counts (first - first))) not_before ∙ ap (frame_of w blocks counts) none

  -- and the frame itself
  seen_here : seen (first + m) past here (first + m) ≡ here
  seen_here = ap (λ b. if b then here else past (first + m)) same
    where
      same : (first + m == first + m) ≡ true
      same = grind (arith, nat_tests)

  pub unclamped_is : (id : ParamId) → level_of w blocks counts id first m ≡ unclamped_value q (first + m) past here id
  unfolding unclamped_value
  unclamped_is id = by_rate (is_k_rate w id)
    where
      at : ℕ → Frame → ℤ
      at g x = sat (intrinsic_value w id g +ℤ mixed_sum x Speakers 1 0 (edges_to_param w.graph.value id))

      by_rate : (b : Bool) → at (first + (if b then 0 else m)) (frame_of w blocks counts (if b then 0 else m))
          ≡ (let g : ℕ = if b then q * ((first + m) / q) else first + m in at g (seen (first + m) past here g))
      by_rate true =
          ap (λ g. at g (frame_of w blocks counts 0)) (let e : first + 0 ≡ first = omega arith in e)
          ∙ ap (at first) (sym seen_first)
          ∙ ap (λ g. at g (seen (first + m) past here g)) (sym quantum_first)
      by_rate false = ap (at (first + m)) (sym seen_here)

-- ---- in its nominal range it is the computed value

-- where a delay's ends, saturating changes nothing
up_to_of_sat : (longest x : ℤ) → IsFix longest → up_to longest (sat x) ≡ up_to longest x
up_to_of_sat (pos most) (pos x) is = let high = is.1 in ap pos (omega (arith, ints))
up_to_of_sat (pos most) (negsuc x) is = refl
up_to_of_sat (negsuc most) x is = refl

module _ (q f : ℕ) (past : ℕ → Frame) (here : Frame) (id : ParamId) where
  abbrev reached : ℤ
  reached =
      let g = if is_k_rate here.world id then q * (f / q) else f in
      intrinsic_value here.world id g +ℤ mixed_sum (seen f past here g) Speakers 1 0 (edges_to_param here.world.graph.value id)

  -- by the row of its node
  nominal_is : (p : ParamRow) → (row (kind_of here.world id.node.0)).param ≡ Some p → in_range p.range reached ≡ computed_value q f past here id
  unfolding computed_value
  nominal_is p is = sym (ap (λ o. option_map_or (λ (p : ParamRow). in_range p.range reached) o (pos 0)) is)

  pub computed_is : (p : ParamRow) → (row (kind_of here.world id.node.0)).param ≡ Some p → p.range ≡ Any → unclamped_value q f past here id ≡ computed_value q f past here id
  unfolding unclamped_value
  computed_is p is any = sym (ap (λ r. in_range r reached) any) ∙ nominal_is p is

  pub limited_is : (p : ParamRow) → (row (kind_of here.world id.node.0)).param ≡ Some p → (most : ℤ) → p.range ≡ UpTo most → IsFix most
      → up_to most (unclamped_value q f past here id) ≡ computed_value q f past here id
  unfolding unclamped_value
  limited_is p is most limited fix = up_to_of_sat most reached fix ∙ sym (ap (λ r. in_range r reached) limited) ∙ nominal_is p is
