-- A tape and a part of it: the same counts, values and parameters, and the same rows.
use Rattle.std.proofs.Common.{ℕ, zero, suc, ℤ, ◌≡◌, ◌+◌, ◌*◌, ◌/◌, ◌<◌, ◌≤◌, length, List, map, slice_index_or, Bool, true, false, inl, inr, refl, sym, ◌∙◌, ap, subst, arith, mul_comm, le_antisymm}
use mathlib.Core.Path.{fun_ext}
use Rattle.std.specs.Prelude.{if◌then◌else◌, nat_lt, ◌==◌, All}
use Rattle.std.specs.List.{range_with_len}
use Rattle.std.proofs.lemmas.Bool.{cases_lt}
use Rattle.std.proofs.lemmas.Bool.Decides.{nat_tests}
use Rattle.std.proofs.lemmas.List.{length-map}
use Rattle.std.proofs.lemmas.Nat.{le-div}
use Rattle.wa_base.specs.declared.contexts.ContextSpec.{ContextSpec}
use Rattle.wa_base.specs.declared.graph_names.ParamName.{ParamName}
use Rattle.law_base.proofs.SchemeLaws.{moment-zero}
use Rattle.node_table.specs.Kinds.{is_delay_kind, is_destination}
use Rattle.node_table.specs.declared.nodes.Node.{Node}
use Rattle.node_table.specs.declared.kinds.Kind.TheVariants.{Destination}
use Rattle.conn_graph.specs.declared.edges.Ports.{Ports}
use Rattle.conn_graph.specs.Ends.{writer_of, reader_of, ends, height}
use Rattle.conn_graph.proofs.EndLaws.{has_writer}
use Rattle.meaning.specs.declared.world.World.{World}
use Rattle.meaning.specs.World.{sounding, no_world, node_at, kind_of, param_id}
use Rattle.meaning.specs.Validity.{ports_of, IsValid}
use Rattle.meaning.specs.Counts.{Counts, world_in, count_at, count, counts_before}
use Rattle.meaning.specs.Values.{Frame, Values, no_frame, silence, seen, value_scheme, world_at, known_at, value_at, value, frame, frames_before, frame_at, param_value}
use Rattle.meaning.specs.Worlds.{IsRegular}
use Rattle.meaning.specs.Rendered.{sample, rows}
use Rattle.meaning.proofs.Joined.{joined_in}
use Rattle.meaning.proofs.CountLaws.{count_silence, count_recursion, count_settled}
use Rattle.meaning.proofs.ValueLaws.{value_suc, value_settled}
use Rattle.meaning.proofs.Successors.{div-le-div}
use Rattle.prune.specs.Parts.{Numbering, whole_end, IsPartOf, ArePartsOf}
use Rattle.prune.proofs.Connected.{Parted, end_within, reader_there}
use Rattle.prune.proofs.Counted.{AgreeOn, AgreeBefore, same_rule}
use Rattle.prune.proofs.Inputs.{IsFrameOf}
use Rattle.prune.proofs.Equations.{AreFramesOf, same_computed, same_equation}
use Rattle.prune.proofs.Lives.{past_end, quantum_there, IsAlive, alive}

-- nothing is a part of nothing
none_is_part : (r : Numbering) → IsPartOf r (sounding no_world) (sounding no_world)
none_is_part r = record {
  spec = refl;
  there = λ i. ((λ l. absurd (omega arith)), (λ l. absurd (omega arith)));
  nodes = λ i l. absurd (omega arith);
  closed = λ e h. absurd h;
  edges = refl;
  lines = λ i name l. absurd (omega arith);
  rates = λ i name l. absurd (omega arith);
  plays = λ i l. absurd (omega arith);
}

sized_in : (tape : List World) → All IsValid tape → (j : ℕ) → length (world_in tape j).graph.value.nodes ≡ length (world_in tape j).nodes
sized_in tape valid j = elim (cases_lt j (length tape)) [
  | inl l ↦ ap (λ (ports : List Ports). length ports) (valid j no_world l).ports ∙ length-map (world_in tape j).nodes ports_of
  | inr l ↦ subst (λ (w : World). length w.graph.value.nodes ≡ length w.nodes) (sym (past_end tape j l)) refl
]

module _ (q : ℕ) (some : 0 < q) (r : Numbering) (part whole : List World) (regular : IsRegular q part) (regular' : IsRegular q whole) (are : ArePartsOf r part whole) where
  is_part : (j : ℕ) → IsPartOf r (world_in part j) (world_in whole j)
  is_part j = elim (cases_lt j (length part)) [
    | inl l ↦ are.worlds j l
    | inr l ↦
        subst (λ (w : World). IsPartOf r w (world_in whole j)) (sym (past_end part j l))
        (subst (IsPartOf r (sounding no_world)) (sym (past_end whole j (subst (λ k. k ≤ j) are.quanta l))) (none_is_part r))
  ]

  parted : (j : ℕ) → Parted r (world_in part j) (world_in whole j)
  parted j = record {
    rising = are.rising;
    is = is_part j;
    joined = joined_in part regular.valid j;
    joined_whole = joined_in whole regular'.valid j;
    size = sized_in part regular.valid j;
    size_whole = sized_in whole regular'.valid j;
  }

  -- ---- counts

  abbrev CountsAgree : ℕ → Type 0
  CountsAgree j = AgreeOn r (world_in part j) (count q part j) (count q whole j)

  module _ (j : ℕ) (earlier : (k : ℕ) → k < j → CountsAgree k) where
    agree_before : AgreeBefore r q (world_in part j) j (counts_before q part j) (counts_before q whole j)
    agree_before n k l is low high =
        let life : IsAlive q some part regular n j k = alive q some part regular n j k (quantum_there part j n l) l (omega arith) low in
        let before : nat_lt k j ≡ true = grind (arith, nat_tests) in
        ap (λ b. (if b then count q part k else λ e. 1) (writer_of n)) before
        ∙ earlier k high (writer_of n) (has_writer (world_in part k).graph.value n ((parted k).joined.delays n ∙ sym life.delay ∙ is))
        ∙ sym (ap (λ b. (if b then count q whole k else λ e. 1) (writer_of (r n))) before)

    counts_at : (h : ℕ) → AgreeOn r (world_in part j) (count_at q part j h) (count_at q whole j h)
    counts_at zero e is = ap (λ (c : Counts). c e) (count_silence q part j) ∙ sym (ap (λ (c : Counts). c (whole_end r e)) (count_silence q whole j))
    counts_at (suc h) e is =
        ap (λ (c : Counts). c e) (count_recursion q part j h)
        ∙ same_rule r (world_in part j) (world_in whole j) (parted j) (count_at q part j h) (count_at q whole j h) (counts_at h) q j (counts_before q part j) (counts_before q whole j) agree_before e is
        ∙ sym (ap (λ (c : Counts). c (whole_end r e)) (count_recursion q whole j h))

    counts_full : CountsAgree j
    counts_full e is =
        let high : ℕ = height (world_in part j).graph.value + height (world_in whole j).graph.value in
        sym (count_settled q part j (parted j).joined high (omega arith) e is)
        ∙ counts_at high e is
        ∙ count_settled q whole j (parted j).joined_whole high (omega arith) (whole_end r e) (end_within r (world_in part j) (world_in whole j) (parted j) e is)

  counts_below : (m j : ℕ) → j < m → CountsAgree j
  counts_below zero j l = absurd (omega arith)
  counts_below (suc m) j l = counts_full j (λ k before. counts_below m k (omega arith))

  pub counts_agree : (j : ℕ) → CountsAgree j
  counts_agree j = counts_below (suc j) j (omega arith)

  -- ---- values

  abbrev ValuesAgree : ℕ → Type 0
  ValuesAgree f = AgreeOn r (world_at q part f) (value q part f) (value q whole f)

  frame_of : (f : ℕ) (s s' : Values) → AgreeOn r (world_at q part f) s s'
      → IsFrameOf r (record { world = world_at q part f; counts = count q part (f / q); values = s }) (record { world = world_at q whole f; counts = count q whole (f / q); values = s' })
  frame_of f s s' agree = record { worlds = parted (f / q); counts = counts_agree (f / q); values = agree }

  -- a frame that is not before its quantum is in it
  same_quantum : (f g : ℕ) → q * (f / q) ≤ g → g ≤ f → g / q ≡ f / q
  same_quantum f g low high = le_antisymm (div-le-div g f q some high) (le-div (f / q) g q some (subst (λ k. k ≤ g) (mul_comm q (f / q)) low))

  earlier_frame : (f g : ℕ) → g ≤ f → (g == f) ≡ false → g < f
  earlier_frame f g high other = grind (arith, nat_tests)

  test_before : (f g : ℕ) → g < f → nat_lt g f ≡ true
  test_before f g l = grind (arith, nat_tests)

  module _ (f : ℕ) (earlier : (g : ℕ) → g < f → ValuesAgree g) where
    module _ (s s' : Values) (agree : AgreeOn r (world_at q part f) s s') where
      abbrev here : Frame
      here = record { world = world_at q part f; counts = count q part (f / q); values = s }

      abbrev here' : Frame
      here' = record { world = world_at q whole f; counts = count q whole (f / q); values = s' }

      -- what is seen of the part at an earlier frame, and at this one
      seen_or_here : (P : Frame → Type 0) (g : ℕ) → g ≤ f → P here → (g < f → P (frame q part g)) → P (seen f (frames_before q part f) here g)
      seen_or_here P g high now before = by_test (g == f) refl
        where
          by_test : (b : Bool) → (g == f) ≡ b → P (if b then here else frames_before q part f g)
          by_test true same = now
          by_test false other =
              let l : g < f = earlier_frame f g high other in
              subst (λ b. P (if b then frame q part g else no_frame)) (sym (test_before f g l)) (before l)

      frames_are : (g : ℕ) → g ≤ f → IsFrameOf r (seen f (frames_before q part f) here g) (seen f (frames_before q whole f) here' g)
      frames_are g high = by_test (g == f) refl
        where
          by_test : (b : Bool) → (g == f) ≡ b → IsFrameOf r (if b then here else frames_before q part f g) (if b then here' else frames_before q whole f g)
          by_test true same = frame_of f s s' agree
          by_test false other =
              let l : g < f = earlier_frame f g high other in
              subst (λ b. IsFrameOf r (if b then frame q part g else no_frame) (if b then frame q whole g else no_frame)) (sym (test_before f g l))
              (frame_of g (value q part g) (value q whole g) (earlier g l))

      life_at : (n g : ℕ) → n < length (world_at q part f).nodes → (node_at (world_at q part f) n).attrs.birth ≤ g → g ≤ f → IsAlive q some part regular n (f / q) (g / q)
      life_at n g l low high =
          alive q some part regular n (f / q) (g / q) (quantum_there part (f / q) n l) l (div-le-div g f q some high) (div-le-div (node_at (world_at q part f) n).attrs.birth g q some low)

      pub are_frames : AreFramesOf r q f (frames_before q part f) (frames_before q whole f) here here'
      are_frames = record {
        frames = frames_are;
        quantum = λ g low high. seen_or_here (λ x. x.world ≡ world_at q part f) g high refl (λ l. ap (world_in part) (same_quantum f g low high));
        alive = λ n g l low high. seen_or_here (λ x. n < length x.world.nodes) g high l (λ before. (life_at n g l low high).there);
        delays = λ n g l low high is. seen_or_here (λ x. is_delay_kind (kind_of x.world n) ≡ true) g high is (λ before. sym (life_at n g l low high).delay ∙ is);
      }

    one_up : (h : ℕ) → AgreeOn r (world_at q part f) (value_at q part f h) (value_at q whole f h) → AgreeOn r (world_at q part f) (value_at q part f (suc h)) (value_at q whole f (suc h))
    one_up h agree e is =
        ap (λ (v : Values). v e) (value_suc q part f h)
        ∙ same_equation r q f (frames_before q part f) (frames_before q whole f) (frame_at q part f h) (frame_at q whole f h)
        (are_frames (value_at q part f h) (value_at q whole f h) agree) (frame_of f (value_at q part f h) (value_at q whole f h) agree) e is
        ∙ sym (ap (λ (v : Values). v (whole_end r e)) (value_suc q whole f h))

    values_at : (h : ℕ) → AgreeOn r (world_at q part f) (value_at q part f h) (value_at q whole f h)
    unfolding value_at
    values_at zero e is =
        ap (λ (v : Values). v e) (moment-zero (value_scheme q) (known_at q part) f) ∙ sym (ap (λ (v : Values). v (whole_end r e)) (moment-zero (value_scheme q) (known_at q whole) f))
    values_at (suc h) e is = one_up h (values_at h) e is

    values_full : ValuesAgree f
    values_full e is =
        let high : ℕ = height (world_at q part f).graph.value + height (world_at q whole f).graph.value in
        sym (value_settled q part some f (parted (f / q)).joined high (omega arith) e is)
        ∙ values_at high e is
        ∙ value_settled q whole some f (parted (f / q)).joined_whole high (omega arith) (whole_end r e) (end_within r (world_at q part f) (world_at q whole f) (parted (f / q)) e is)

  values_below : (m f : ℕ) → f < m → ValuesAgree f
  values_below zero f l = absurd (omega arith)
  values_below (suc m) f l = values_full f (λ g before. values_below m g (omega arith))

  pub values_agree : (f : ℕ) → ValuesAgree f
  values_agree f = values_below (suc f) f (omega arith)

  -- ---- parameters

  pub params_agree : (f i : ℕ) (name : ParamName) → i < length (world_at q part f).nodes → param_value q part f (param_id i name) ≡ param_value q whole f (param_id (r i) name)
  params_agree f i name l =
      same_computed r q f (frames_before q part f) (frames_before q whole f) (frame q part f) (frame q whole f)
      (are_frames f (λ g before. values_agree g) (value q part f) (value q whole f) (values_agree f)) (frame_of f (value q part f) (value q whole f) (values_agree f)) i name l

  -- ---- rows

  -- past the end of a tape there is silence
  silent_past : (tape : List World) (f : ℕ) → length tape ≤ f / q → value q tape f ≡ silence
  unfolding value value_at height ends
  silent_past tape f l =
      ap (λ (w : World). value_at q tape f (height w.graph.value)) (past_end tape (f / q) l) ∙ moment-zero (value_scheme q) (known_at q tape) f

  -- the destination is the destination
  first_is_first : (j : ℕ) → j < length part → r 0 ≡ 0
  first_is_first j l = elim (cases_lt 0 (r 0)) [
    | inl up ↦ absurd (let created = (whole_valid.nodes.others (r 0) up (((is_part j).there 0).0 some_node)).kind in let first = ap is_destination kind in cc)
    | inr low ↦ omega (arith, low)
  ]
    where
      l' : j < length whole
      l' = subst (λ k. j < k) are.quanta l

      part_valid : IsValid (slice_index_or part j no_world)
      part_valid = regular.valid j no_world l

      whole_valid : IsValid (slice_index_or whole j no_world)
      whole_valid = regular'.valid j no_world l'

      some_node : 0 < length (world_in part j).nodes
      some_node = part_valid.nodes.some

      kind : (node_at (world_in whole j) (r 0)).kind ≡ Destination
      kind = sym (ap (λ (x : Node). x.kind) ((is_part j).nodes 0 some_node)) ∙ part_valid.nodes.first.kind

  sample_agrees : (f c : ℕ) → sample q part f c ≡ sample q whole f c
  sample_agrees f c = elim (cases_lt (f / q) (length part)) [
    | inl l ↦
        let there : 0 < length (world_at q part f).nodes = (regular.valid (f / q) no_world l).nodes.some in
        ap (λ (v : ℕ → ℕ → ℤ). v 0 c) (values_agree f (reader_of 0) (reader_there r (world_at q part f) (world_at q whole f) (parted (f / q)) 0 there))
        ∙ ap (λ n. value q whole f (reader_of n) 0 c) (first_is_first (f / q) l)
    | inr l ↦
        ap (λ (v : Values). v (reader_of 0) 0 c) (silent_past part f l)
        ∙ sym (ap (λ (v : Values). v (reader_of 0) 0 c) (silent_past whole f (subst (λ k. k ≤ f / q) are.quanta l)))
  ]

  pub rows_agree : (spec : ContextSpec) → rows q part spec ≡ rows q whole spec
  unfolding rows
  rows_agree spec = ap (λ row. map row (range_with_len 0 spec.length)) (fun_ext (λ f. ap (λ s. map s (range_with_len 0 spec.channels)) (fun_ext (λ c. sample_agrees f c))))
