-- The equation of an end of a part gives what that of its counterpart gives.
use Rattle.std.proofs.Common.{ℕ, ℤ, pos, ◌≡◌, ◌+◌, ◌-◌, ◌*◌, ◌/◌, ◌<◌, ◌≤◌, ◌+ℤ◌, length, Bool, true, false, Option, Some, None, refl, sym, ◌∙◌, ap, ap₂, subst, arith}
use mathlib.Core.Path.{fun_ext}
use Rattle.std.specs.Prelude.{if◌then◌else◌, nat_lt, ◌&&◌, max}
use Rattle.std.proofs.lemmas.Bool.Decides.{nat_tests}
use Rattle.wa_base.specs.declared.graph_names.End.{End}
use Rattle.wa_base.specs.declared.graph_names.Interp.TheVariants.{Speakers}
use Rattle.wa_base.specs.declared.graph_names.ParamName.{ParamName}
use Rattle.wa_base.specs.declared.graph_names.ParamName.TheVariants as param
use Rattle.wa_base.specs.declared.contexts.ContextSpec.{ContextSpec}
use Rattle.law_base.specs.Members.{IsIn}
use Rattle.mix_rules.specs.Mixing.{mix}
use Rattle.node_table.specs.Delays.{frames_of}
use Rattle.node_table.specs.Kinds.{row, is_delay_kind, outputs}
use Rattle.node_table.specs.Rows.{is_written}
use Rattle.node_table.specs.declared.kinds.Kind.{Kind}
use Rattle.node_table.specs.declared.nodes.Node.{Node}
use Rattle.node_table.specs.declared.rows.Keeps.{Keeps}
use Rattle.node_table.specs.declared.rows.Keeps.TheVariants.{Nothing, Heard, Written}
use Rattle.node_table.specs.declared.rows.ParamRow.{ParamRow}
use Rattle.node_table.specs.declared.rows.Plays.{Plays}
use Rattle.node_table.specs.declared.rows.Plays.TheVariants.{Value, Content}
use Rattle.conn_graph.specs.Graph.{edges_to_param}
use Rattle.conn_graph.specs.Ends.{writer_of, reader_of, ends, in_cycle, muted}
use Rattle.conn_graph.proofs.EndLaws.{has_writer}
use Rattle.meaning.specs.declared.world.World.{World}
use Rattle.meaning.specs.World.{node_at, kind_of, param_id, intrinsic_value, is_k_rate, nominal}
use Rattle.meaning.specs.Lists.{since}
use Rattle.meaning.specs.Values.{Frame, seen, mixed_sum, input_value, taken_in, frames_heard, computed_value, delay_frames, delayed, taken_from, made_of, causal_value, level_of, value_by_row, value_by_kind, equation}
use Rattle.meaning.proofs.Seeing.{same_since}
use Rattle.prune.specs.Parts.{Numbering, whole_end}
use Rattle.prune.proofs.Connected.{same_kind, end_there, reader_there, same_params}
use Rattle.prune.proofs.Muted.{same_in_cycle, same_muted}
use Rattle.prune.proofs.Plays.{same_sounds, same_samples, same_intrinsic, same_rate}
use Rattle.prune.proofs.Inputs.{IsFrameOf, same_sum, param_sources, same_value, same_taken}

-- What an equation of frame f of a part sees: frames of the part, with the world of this frame in this quantum, and with each node since its birth.
pub record AreFramesOf (r : Numbering) (q f : ℕ) (past past' : ℕ → Frame) (here here' : Frame) : Type 0 where
  pub frames : (g : ℕ) → g ≤ f → IsFrameOf r (seen f past here g) (seen f past' here' g)
  pub quantum : (g : ℕ) → q * (f / q) ≤ g → g ≤ f → (seen f past here g).world ≡ here.world
  pub alive : (n g : ℕ) → n < length here.world.nodes → (node_at here.world n).attrs.birth ≤ g → g ≤ f → n < length (seen f past here g).world.nodes
  pub delays : (n g : ℕ) → n < length here.world.nodes → (node_at here.world n).attrs.birth ≤ g → g ≤ f
      → is_delay_kind (kind_of here.world n) ≡ true → is_delay_kind (kind_of (seen f past here g).world n) ≡ true

module _ (r : Numbering) (q f : ℕ) (past past' : ℕ → Frame) (here here' : Frame) (are : AreFramesOf r q f past past' here here') (is : IsFrameOf r here here') where
  abbrev w : World
  w = here.world

  abbrev w' : World
  w' = here'.world

  -- ---- parameters

  same_sum_at : (g n : ℕ) (name : ParamName) → n < length w.nodes → q * (f / q) ≤ g → g ≤ f
      → mixed_sum (seen f past here g) Speakers 1 0 (edges_to_param w.graph.value (param_id n name)) ≡ mixed_sum (seen f past' here' g) Speakers 1 0 (edges_to_param w'.graph.value (param_id (r n) name))
  same_sum_at g n name l low high =
      same_sum r (seen f past here g) (seen f past' here' g) (are.frames g high) Speakers 1 0 (edges_to_param w.graph.value (param_id n name))
      (λ e h. subst (λ (x : World). IsIn (reader_of e.from.0) (ends x.graph.value)) (sym (are.quantum g low high)) (param_sources r here here' is n name e h))
      ∙ ap (mixed_sum (seen f past' here' g) Speakers 1 0) (sym (same_params r w w' is.worlds n name l))

  pub same_computed : (n : ℕ) (name : ParamName) → n < length w.nodes → computed_value q f past here (param_id n name) ≡ computed_value q f past' here' (param_id (r n) name)
  unfolding computed_value
  same_computed n name l =
      by_rate (is_k_rate w (param_id n name))
      ∙ ap (λ b. at' (if b then q * (f / q) else f)) (same_rate r w w' is.worlds.is n l name)
    where
      at : ℕ → ℤ
      at g = nominal (kind_of w n) (intrinsic_value w (param_id n name) g +ℤ mixed_sum (seen f past here g) Speakers 1 0 (edges_to_param w.graph.value (param_id n name)))

      at' : ℕ → ℤ
      at' g = nominal (kind_of w' (r n)) (intrinsic_value w' (param_id (r n) name) g +ℤ mixed_sum (seen f past' here' g) Speakers 1 0 (edges_to_param w'.graph.value (param_id (r n) name)))

      same_at : (g : ℕ) → q * (f / q) ≤ g → g ≤ f → at g ≡ at' g
      same_at g low high =
          ap (λ k. nominal k (intrinsic_value w (param_id n name) g +ℤ mixed_sum (seen f past here g) Speakers 1 0 (edges_to_param w.graph.value (param_id n name)))) (same_kind r w w' is.worlds n l)
          ∙ ap₂ (λ a b. nominal (kind_of w' (r n)) (a +ℤ b)) (same_intrinsic r w w' is.worlds.is n l name g) (same_sum_at g n name l low high)

      by_rate : (b : Bool) → at (if b then q * (f / q) else f) ≡ at' (if b then q * (f / q) else f)
      by_rate true = same_at (q * (f / q)) (omega arith) (omega arith)
      by_rate false = same_at f (omega arith) (omega arith)

  -- ---- what a node hears, and what it wrote

  same_heard : (n c : ℕ) → n < length w.nodes → frames_heard f past here n c ≡ frames_heard f past' here' (r n) c
  same_heard n c l =
      same_since (λ g. taken_in (seen f past here g) n c) (λ g. taken_in (seen f past' here' g) (r n) c) birth (f + 1 - birth)
      (λ g low high. same_taken r (seen f past here g) (seen f past' here' g) (are.frames g (omega arith)) n c (are.alive n g l low (omega arith)))
      ∙ ap (λ (x : Node). since (λ g. taken_in (seen f past' here' g) (r n) c) x.attrs.birth (f + 1 - x.attrs.birth)) (is.worlds.is.nodes n l)
    where
      birth : ℕ
      birth = (node_at w n).attrs.birth

  same_frames : (n : ℕ) → n < length w.nodes → delay_frames q f past here n ≡ delay_frames q f past' here' (r n)
  same_frames n l =
      ap₂ (λ x (s : ContextSpec). frames (frames_of x s.rate) (in_cycle w.graph.value n)) (same_computed n param.DelayTime l) is.worlds.is.spec
      ∙ ap (frames (frames_of (computed_value q f past' here' (param_id (r n) param.DelayTime)) w'.spec.rate)) (same_in_cycle r w w' is.worlds n l)
    where
      frames : ℕ → Bool → ℕ
      frames k b = if b then max q k else k

  same_delayed : (n c : ℕ) → n < length w.nodes → is_delay_kind (kind_of w n) ≡ true → delayed q f past here n c ≡ delayed q f past' here' (r n) c
  same_delayed n c l delay =
      by_birth (nat_lt f ((node_at w n).attrs.birth + d)) refl
      ∙ ap₂ (λ (x : Node) k. given x k) (is.worlds.is.nodes n l) (same_frames n l)
    where
      d : ℕ
      d = delay_frames q f past here n

      given : Node → ℕ → ℤ
      given node k =
          let x = seen f past' here' (f - k) in
          if nat_lt f (node.attrs.birth + k) then pos 0 else mix node.attrs.interp (x.counts (writer_of (r n))) (here'.counts (reader_of (r n))) (x.values (writer_of (r n)) 0) c

      mixed : ℤ
      mixed = let x = seen f past here (f - d) in mix (node_at w n).attrs.interp (x.counts (writer_of n)) (here.counts (reader_of n)) (x.values (writer_of n) 0) c

      mixed' : ℤ
      mixed' = let x = seen f past' here' (f - d) in mix (node_at w n).attrs.interp (x.counts (writer_of (r n))) (here'.counts (reader_of (r n))) (x.values (writer_of (r n)) 0) c

      by_birth : (b : Bool) → nat_lt f ((node_at w n).attrs.birth + d) ≡ b → (if b then pos 0 else mixed) ≡ (if b then pos 0 else mixed')
      by_birth true unborn = refl
      by_birth false born =
          let before : (node_at w n).attrs.birth + d ≤ f = grind (arith, nat_tests) in
          let back : IsFrameOf r (seen f past here (f - d)) (seen f past' here' (f - d)) = are.frames (f - d) (omega arith) in
          let there : IsIn (writer_of n) (ends (seen f past here (f - d)).world.graph.value) =
          has_writer (seen f past here (f - d)).world.graph.value n (back.worlds.joined.delays n ∙ are.delays n (f - d) l (omega arith) (omega arith) delay) in
          ap (λ from. mix (node_at w n).attrs.interp from (here.counts (reader_of n)) ((seen f past here (f - d)).values (writer_of n) 0) c) (back.counts (writer_of n) there)
          ∙ ap (λ to. mix (node_at w n).attrs.interp ((seen f past' here' (f - d)).counts (writer_of (r n))) to ((seen f past here (f - d)).values (writer_of n) 0) c)
          (is.counts (reader_of n) (reader_there r w w' is.worlds n l))
          ∙ ap (λ (values : ℕ → ℕ → ℤ). mix (node_at w n).attrs.interp ((seen f past' here' (f - d)).counts (writer_of (r n))) (here'.counts (reader_of (r n))) (values 0) c) (back.values (writer_of n) there)

  -- ---- equations

  by_kind : (e : End) → e.node.0 < length w.nodes → (o c : ℕ) (k : Kind) → kind_of w e.node.0 ≡ k → value_by_kind q f past here k e o c ≡ value_by_kind q f past' here' k (whole_end r e) o c
  by_kind e l o c k is_kind = by_row (row k).keeps (row k).plays refl
    where
      same_level : (param : Option ParamRow) → level_of q f past here e.node.0 param ≡ level_of q f past' here' (r e.node.0) param
      same_level None = refl
      same_level (Some row) = same_computed e.node.0 row.name l

      by_end : is_delay_kind (kind_of w e.node.0) ≡ true → (b : Bool) → (if b then input_value here e.node.0 0 c else delayed q f past here e.node.0 c)
          ≡ (if b then input_value here' (r e.node.0) 0 c else delayed q f past' here' (r e.node.0) c)
      by_end delay true = same_value r here here' is e.node.0 0 c l
      by_end delay false = same_delayed e.node.0 c l delay

      by_row : (keeps : Keeps) (plays : Option Plays) → (row k).keeps ≡ keeps → value_by_row q f past here keeps plays k e o c ≡ value_by_row q f past' here' keeps plays k (whole_end r e) o c
      by_row Nothing None are = ap₂ (made_of k) (same_value r here here' is e.node.0 (taken_from k o c).0 (taken_from k o c).1 l) (same_level (row k).param)
      by_row Nothing (Some Value) are = ap₂ (λ b x. if b then x else pos 0) (same_sounds r w w' is.worlds.is e.node.0 l f) (same_level (row k).param)
      by_row Nothing (Some (Content rate)) are = same_samples r w w' is.worlds.is e.node.0 l c f
      by_row Heard plays are = ap (causal_value k) (same_heard e.node.0 c l)
      by_row (Written frames) plays are = by_end (ap is_delay_kind is_kind ∙ ap is_written are) e.writer

  -- The equation of an end of the part gives what that of its counterpart gives.
  pub same_equation : (e : End) → IsIn e (ends w.graph.value) → equation q f past here e ≡ equation q f past' here' (whole_end r e)
  unfolding equation
  same_equation e h = fun_ext (λ o. fun_ext (λ c.
      ap (λ b. if b then pos 0 else here_given o c (kind_of w e.node.0) (here.counts e)) (same_muted r w w' is.worlds e h)
      ∙ ap (λ v. if muted w'.graph.value (whole_end r e) then pos 0 else v)
      (ap (λ v. if nat_lt o (outputs (kind_of w e.node.0)) && nat_lt c (here.counts e) then v else pos 0) (by_kind e l o c (kind_of w e.node.0) refl)
      ∙ ap₂ (there_given o c) (same_kind r w w' is.worlds e.node.0 l) (is.counts e h))))
    where
      l : e.node.0 < length w.nodes
      l = end_there r w w' is.worlds e h

      here_given : ℕ → ℕ → Kind → ℕ → ℤ
      here_given o c k n = if nat_lt o (outputs k) && nat_lt c n then value_by_kind q f past here k e o c else pos 0

      there_given : ℕ → ℕ → Kind → ℕ → ℤ
      there_given o c k n = if nat_lt o (outputs k) && nat_lt c n then value_by_kind q f past' here' k (whole_end r e) o c else pos 0
