-- What the equation of one end sees, of its own frame, of its own quantum, and of the quanta before.
use Rattle.std.proofs.Common.{ℕ, zero, suc, ℤ, pos, ◌≡◌, ◌+◌, ◌-◌, ◌⊎◌, inl, inr, ap₂, ◌*◌, ◌/◌, ◌<◌, ◌≤◌, ◌+ℤ◌, List, ◌∷◌, Bool, true, false, refl, sym, ◌∙◌, ap, arith, subst}
use mathlib.Core.Path.{fun_ext}
use Rattle.std.specs.Prelude.{if◌then◌else◌, nat_lt, ◌==◌, ◌&&◌, max, Option, Some, None}
use Rattle.std.proofs.lemmas.Bool.Decides.{nat_tests}
use Rattle.wa_base.specs.declared.graph_names.End.{End}
use Rattle.wa_base.specs.declared.graph_names.Interp.{Interp}
use Rattle.wa_base.specs.declared.graph_names.Interp.TheVariants.{Speakers}
use Rattle.wa_base.specs.declared.graph_names.ParamId.{ParamId}
use Rattle.wa_base.specs.declared.graph_names.ParamName.{ParamName}
use Rattle.wa_base.specs.declared.graph_names.ParamName.TheVariants as param
use Rattle.law_base.specs.Members.{IsIn}
use Rattle.law_base.proofs.Members.{same_map}
use Rattle.mix_rules.specs.Counts.{input_count}
use Rattle.mix_rules.specs.Mixing.{mix, fan_in}
use Rattle.node_table.specs.Delays.{frames_of}
use Rattle.node_table.specs.Kinds.{row, is_delay_kind, outputs, remembers}
use Rattle.node_table.specs.declared.kinds.Kind.{Kind}
use Rattle.node_table.specs.Rows.{is_written, is_heard}
use Rattle.node_table.specs.declared.rows.Keeps.{Keeps}
use Rattle.node_table.specs.declared.rows.Keeps.TheVariants.{Nothing, Heard, Written}
use Rattle.node_table.specs.declared.rows.ParamRow.{ParamRow}
use Rattle.node_table.specs.declared.rows.Plays.{Plays}
use Rattle.node_table.specs.declared.rows.Plays.TheVariants.{Value, Content}
use Rattle.node_table.specs.declared.nodes.Node.{Node}
use Rattle.conn_graph.specs.declared.edges.Edge.{Edge}
use Rattle.conn_graph.specs.Graph.{edges_to_input, edges_to_param}
use Rattle.conn_graph.specs.Ends.{writer_of, reader_of, ends, is_delay, input_end, in_cycle, arrow, muted}
use Rattle.conn_graph.proofs.EndLaws.{end_is, has_end, has_writer, input_arrow, param_arrow, writer_arrow}
use Rattle.meaning.specs.declared.world.World.{World}
use Rattle.meaning.specs.World.{node_at, kind_of, param_id, intrinsic_value, is_k_rate, nominal, sounds_at}
use Rattle.meaning.specs.Validity.{IsJoined}
use Rattle.meaning.specs.Counts.{Counts, input_channels}
use Rattle.meaning.specs.Lists.{since}
use Rattle.meaning.specs.Values.{Frame, Values, seen, mixed_sum, input_value, taken_in, frames_heard, computed_value, delay_frames, delayed, taken_from, made_of, causal_value, level_of, value_by_row, value_by_kind, has_channel, equation}

-- an end of a node that is no delay is the one at which the node's inputs arrive
pub plain_end : (w : World) → IsJoined w → (e : End) → IsIn e (ends w.graph.value) → is_delay_kind (kind_of w e.node.0) ≡ false → e ≡ input_end w.graph.value e.node.0
plain_end w joined e h k = ap (λ b. let x : End = record { node = e.node; writer = b } in x) (by_writer e.writer refl)
  where
    by_writer : (b : Bool) → e.writer ≡ b → e.writer ≡ is_delay w.graph.value e.node.0
    by_writer true is = is ∙ sym ((end_is w.graph.value e h).1 is)
    by_writer false is = is ∙ sym (joined.delays e.node.0 ∙ k)

-- and it is no writer
pub plain_reader : (w : World) → IsJoined w → (e : End) → IsIn e (ends w.graph.value) → is_delay_kind (kind_of w e.node.0) ≡ false → e ≡ reader_of e.node.0
plain_reader w joined e h k = plain_end w joined e h k ∙ ap (λ b. let x : End = record { node = e.node; writer = b } in x) (joined.delays e.node.0 ∙ k)

-- the writer of a delay is the end at which its input arrives
pub writer_end : (w : World) → IsJoined w → (e : End) → is_delay_kind (kind_of w e.node.0) ≡ true → e.writer ≡ true → e ≡ input_end w.graph.value e.node.0
writer_end w joined e k is = ap (λ b. let x : End = record { node = e.node; writer = b } in x) (is ∙ sym (joined.delays e.node.0 ∙ k))

pub reader_end : (e : End) → e.writer ≡ false → e ≡ reader_of e.node.0
reader_end e is = ap (λ b. let x : End = record { node = e.node; writer = b } in x) is

-- what is said of ends agrees on each end from which an arrow leads to e
abbrev pub AgreeFor : {A : Type 0} → World → End → (End → A) → (End → A) → Type 0
AgreeFor w e s t = (d : End) → IsIn d (ends w.graph.value) → arrow w.graph.value d e ≡ true → s d ≡ t d

-- the end from which a connection to an input comes
pub input_source : (w : World) → IsJoined w → (e : End) → e ≡ input_end w.graph.value e.node.0 → (i : ℕ) (x : Edge) → IsIn x (edges_to_input w.graph.value e.node.0 i)
    → IsIn (reader_of x.from.0) (ends w.graph.value) × (arrow w.graph.value (reader_of x.from.0) e ≡ true)
input_source w joined e is i x h =
    let a = input_arrow w.graph.value e.node.0 i x h in
    (has_end w.graph.value x.from.0 (joined.places x a.0).from, subst (λ y. arrow w.graph.value (reader_of x.from.0) y ≡ true) (sym is) a.1)

param_source : (w : World) → IsJoined w → (e : End) → e ≡ reader_of e.node.0 → (name : ParamName) (x : Edge) → IsIn x (edges_to_param w.graph.value (param_id e.node.0 name))
    → IsIn (reader_of x.from.0) (ends w.graph.value) × (arrow w.graph.value (reader_of x.from.0) e ≡ true)
param_source w joined e is name x h =
    let a = param_arrow w.graph.value (param_id e.node.0 name) x h in
    (has_end w.graph.value x.from.0 (joined.places x a.0).from, subst (λ y. arrow w.graph.value (reader_of x.from.0) y ≡ true) (sym is) a.1)

-- the computed number of channels of an input depends on the ends that are connected to it
pub same_channels : (w : World) → IsJoined w → (s t : Counts) (e : End) → e ≡ input_end w.graph.value e.node.0 → AgreeFor w e s t → (i : ℕ)
    → input_channels w s e.node.0 i ≡ input_channels w t e.node.0 i
same_channels w joined s t e is agree i =
    ap (input_count (node_at w e.node.0).attrs.mode (node_at w e.node.0).attrs.count)
    (same_map _ _ (edges_to_input w.graph.value e.node.0 i) (λ x h. let a = input_source w joined e is i x h in agree (reader_of x.from.0) a.0 a.1))

abbrev here : World → Counts → Values → Frame
here w counts values = record { world = w; counts = counts; values = values }

-- what is carried alike adds up alike
same_sum : (w : World) (k l : Counts) (u v : Values) (interp : Interp) (to c : ℕ) (xs : List Edge)
    → ((x : Edge) → IsIn x xs → (k (reader_of x.from.0) ≡ l (reader_of x.from.0)) × (u (reader_of x.from.0) ≡ v (reader_of x.from.0)))
    → mixed_sum (here w k u) interp to c xs ≡ mixed_sum (here w l v) interp to c xs
same_sum w k l u v interp to c xs each = ap fan_in (same_map _ _ xs (λ x is.
    ap (λ from. mix interp from to (u (reader_of x.from.0) x.output) c) (each x is).0
    ∙ ap (λ (values : ℕ → ℕ → ℤ). mix interp (l (reader_of x.from.0)) to (values x.output) c) (each x is).1))

-- an input depends on the ends that are connected to it
pub input_like : (w : World) → IsJoined w → (m n : Counts) (s t : Values) (e : End) → e ≡ input_end w.graph.value e.node.0 → AgreeFor w e m n → AgreeFor w e s t → (i c : ℕ)
    → input_value (here w m s) e.node.0 i c ≡ input_value (here w n t) e.node.0 i c
unfolding input_value
input_like w joined m n s t e is agree_counts agree i c =
    ap (λ to. if nat_lt c to then mixed_sum (here w m s) interp to c edges else pos 0) (same_channels w joined m n e is agree_counts i)
    ∙ ap (λ x. if nat_lt c (input_channels w n e.node.0 i) then x else pos 0)
    (same_sum w m n s t interp (input_channels w n e.node.0 i) c edges (λ x k. let a = input_source w joined e is i x k in (agree_counts (reader_of x.from.0) a.0 a.1, agree (reader_of x.from.0) a.0 a.1)))
  where
    interp : Interp
    interp = (node_at w e.node.0).attrs.interp

    edges : List Edge
    edges = edges_to_input w.graph.value e.node.0 i

-- Two frames look alike to an end: they are one, or both are of this world and agree, in counts and values, on the ends from which an arrow leads to e.
pub data LikeFor (w : World) (e : End) (x y : Frame) : Type 0 where
  same : x ≡ y → LikeFor w e x y
  alike : (m n : Counts) (s t : Values) → x ≡ record { world = w; counts = m; values = s } → y ≡ record { world = w; counts = n; values = t } → AgreeFor w e m n → AgreeFor w e s t → LikeFor w e x y

-- Two pasts look alike to an end: in the frames of its quantum, in what its writer took in before, where it is a delay's, and in what it heard before, where its node remembers.
pub record SeesFor (q f : ℕ) (w : World) (e : End) (past past' : ℕ → Frame) : Type 0 where
  pub recent : (g : ℕ) → q * (f / q) ≤ g → g < f → LikeFor w e (past g) (past' g)
  pub delays : (g : ℕ) → is_delay w.graph.value e.node.0 ≡ true → (node_at w e.node.0).attrs.birth ≤ g → g < q * (f / q)
      → ((past g).counts (writer_of e.node.0) ≡ (past' g).counts (writer_of e.node.0)) × ((past g).values (writer_of e.node.0) 0 ≡ (past' g).values (writer_of e.node.0) 0)
  pub heard : (g c : ℕ) → remembers (kind_of w e.node.0) ≡ true → (node_at w e.node.0).attrs.birth ≤ g → g < q * (f / q) → taken_in (past g) e.node.0 c ≡ taken_in (past' g) e.node.0 c

-- lists of frames that are alike one by one
pub same_since : {A : Type 0} (at at' : ℕ → A) (birth k : ℕ) → ((g : ℕ) → birth ≤ g → g < birth + k → at g ≡ at' g) → since at birth k ≡ since at' birth k
same_since at at' birth zero each = refl
same_since at at' birth (suc k) each = ap₂ (λ x xs. x ∷ xs) (each (birth + k) (omega arith) (omega arith)) (same_since at at' birth k (λ g low high. each g low (omega arith)))

module _ (q : ℕ) (some : 0 < q) (w : World) (joined : IsJoined w) (f : ℕ) (past past' : ℕ → Frame) (e : End) (h : IsIn e (ends w.graph.value))
    (sees : SeesFor q f w e past past') (m n : Counts) (own : m e ≡ n e) (agree_counts : AgreeFor w e m n) (s t : Values) (agree : AgreeFor w e s t) where
  -- a frame of this quantum, this one included
  like_now : (g : ℕ) → q * (f / q) ≤ g → g ≤ f → LikeFor w e (seen f past (here w m s) g) (seen f past' (here w n t) g)
  like_now g low high = by_test (g == f) refl
    where
      by_test : (b : Bool) → (g == f) ≡ b → LikeFor w e (if b then here w m s else past g) (if b then here w n t else past' g)
      by_test true now = alike m n s t refl refl agree_counts agree
      by_test false other = sees.recent g low (grind (arith, nat_tests))

  -- a frame is one of this quantum, or older
  now_or_before : (g : ℕ) → (q * (f / q) ≤ g) ⊎ (g < q * (f / q))
  now_or_before g = grind arith

  seen_before : (before : ℕ → Frame) (x : Frame) (g : ℕ) → g < f → seen f before x g ≡ before g
  seen_before before x g l = ap (λ b. if b then x else before g) (let other : (g == f) ≡ false = grind (arith, nat_tests) in other)

  sum_like : (interp : Interp) (to c : ℕ) (xs : List Edge) → ((x : Edge) → IsIn x xs → IsIn (reader_of x.from.0) (ends w.graph.value) × (arrow w.graph.value (reader_of x.from.0) e ≡ true))
      → (x y : Frame) → LikeFor w e x y → mixed_sum x interp to c xs ≡ mixed_sum y interp to c xs
  sum_like interp to c xs arrows x y (same p) = ap (λ z. mixed_sum z interp to c xs) p
  sum_like interp to c xs arrows x y (alike k l u v p r b a) = ap (λ z. mixed_sum z interp to c xs) p
      ∙ same_sum w k l u v interp to c xs (λ z is. let arrow_z = arrows z is in (b (reader_of z.from.0) arrow_z.0 arrow_z.1, a (reader_of z.from.0) arrow_z.0 arrow_z.1))
      ∙ sym (ap (λ z. mixed_sum z interp to c xs) r)

  pub computed_like : e ≡ reader_of e.node.0 → (name : ParamName) → computed_value q f past (here w m s) (param_id e.node.0 name) ≡ computed_value q f past' (here w n t) (param_id e.node.0 name)
  unfolding computed_value
  computed_like is name = by_rate (is_k_rate w id)
    where
      id : ParamId
      id = param_id e.node.0 name

      at : (ℕ → Frame) → Frame → ℕ → ℤ
      at before now g = nominal (kind_of w e.node.0) (intrinsic_value w id g +ℤ mixed_sum (seen f before now g) Speakers 1 0 (edges_to_param w.graph.value id))

      same_at : (g : ℕ) → q * (f / q) ≤ g → g ≤ f → at past (here w m s) g ≡ at past' (here w n t) g
      same_at g low high = ap (λ x. nominal (kind_of w e.node.0) (intrinsic_value w id g +ℤ x))
          (sum_like Speakers 1 0 (edges_to_param w.graph.value id) (param_source w joined e is name) _ _ (like_now g low high))

      by_rate : (b : Bool) → at past (here w m s) (if b then q * (f / q) else f) ≡ at past' (here w n t) (if b then q * (f / q) else f)
      by_rate true = same_at (q * (f / q)) (omega arith) (omega arith)
      by_rate false = same_at f (omega arith) (omega arith)

  -- what the input takes in, in frames that look alike
  taken_like : e ≡ input_end w.graph.value e.node.0 → (c : ℕ) (x y : Frame) → LikeFor w e x y → taken_in x e.node.0 c ≡ taken_in y e.node.0 c
  taken_like is c x y (same p) = ap (λ z. taken_in z e.node.0 c) p
  taken_like is c x y (alike k l u v p r b a) =
      ap (λ z. taken_in z e.node.0 c) p
      ∙ ap (λ z. if muted w.graph.value (input_end w.graph.value e.node.0) then pos 0 else z) (input_like w joined k l u v e is b a 0 c)
      ∙ sym (ap (λ z. taken_in z e.node.0 c) r)

  -- all that it took in
  heard_like : remembers (kind_of w e.node.0) ≡ true → e ≡ input_end w.graph.value e.node.0 → (c : ℕ) → frames_heard f past (here w m s) e.node.0 c ≡ frames_heard f past' (here w n t) e.node.0 c
  heard_like is plain c = same_since _ _ (node_at w e.node.0).attrs.birth (f + 1 - (node_at w e.node.0).attrs.birth) (λ g low high. elim (now_or_before g) [
    | inl now ↦ taken_like plain c _ _ (like_now g now (omega arith))
    | inr old ↦
        let below : g < f = let start : q * (f / q) ≤ f = omega arith in omega arith in
        ap (λ z. taken_in z e.node.0 c) (seen_before past (here w m s) g below)
        ∙ sees.heard g c is low old
        ∙ sym (ap (λ z. taken_in z e.node.0 c) (seen_before past' (here w n t) g below))
  ])

  abbrev node : Node
  node = node_at w e.node.0

  -- so many frames a delay lasts
  frames_like : e ≡ reader_of e.node.0 → delay_frames q f past (here w m s) e.node.0 ≡ delay_frames q f past' (here w n t) e.node.0
  frames_like is = ap (λ x. let frames = frames_of x w.spec.rate in if in_cycle w.graph.value e.node.0 then max q frames else frames) (computed_like is param.DelayTime)

  -- in a cycle it lasts a quantum
  quantum_long : (b : Bool) (frames : ℕ) → b ≡ true → q ≤ (if b then max q frames else frames)
  quantum_long true frames is = omega arith
  quantum_long false frames is = absurd cc

  -- what the writer of a delay took in, in frames that look alike to its reader
  writer_like : is_delay_kind (kind_of w e.node.0) ≡ true → arrow w.graph.value (writer_of e.node.0) e ≡ true → (x y : Frame) → LikeFor w e x y
      → (x.counts (writer_of e.node.0) ≡ y.counts (writer_of e.node.0)) × (x.values (writer_of e.node.0) 0 ≡ y.values (writer_of e.node.0) 0)
  writer_like is a x y (same p) = (ap (λ (z : Frame). z.counts (writer_of e.node.0)) p, ap (λ (z : Frame). z.values (writer_of e.node.0) 0) p)
  writer_like is a x y (alike k l u v p r b c) =
      let there : IsIn (writer_of e.node.0) (ends w.graph.value) = has_writer w.graph.value e.node.0 (joined.delays e.node.0 ∙ is) in (
        ap (λ (z : Frame). z.counts (writer_of e.node.0)) p ∙ b (writer_of e.node.0) there a ∙ sym (ap (λ (z : Frame). z.counts (writer_of e.node.0)) r),
        ap (λ (z : Frame). z.values (writer_of e.node.0) 0) p ∙ ap (λ (z : ℕ → ℕ → ℤ). z 0) (c (writer_of e.node.0) there a) ∙ sym (ap (λ (z : Frame). z.values (writer_of e.node.0) 0) r),
      )

  -- what it took in at the frame that the reader asks for
  asked_like : is_delay_kind (kind_of w e.node.0) ≡ true → e ≡ reader_of e.node.0 → (d : ℕ) → (in_cycle w.graph.value e.node.0 ≡ true → q ≤ d) → node.attrs.birth + d ≤ f
      → ((seen f past (here w m s) (f - d)).counts (writer_of e.node.0) ≡ (seen f past' (here w n t) (f - d)).counts (writer_of e.node.0))
      × ((seen f past (here w m s) (f - d)).values (writer_of e.node.0) 0 ≡ (seen f past' (here w n t) (f - d)).values (writer_of e.node.0) 0)
  asked_like is reader d long born = elim (now_or_before (f - d)) [
    | inl now ↦ by_cycle now (in_cycle w.graph.value e.node.0) refl
    | inr old ↦
        let below : f - d < f = let start : q * (f / q) ≤ f = omega arith in omega arith in
        let there = sees.delays (f - d) (joined.delays e.node.0 ∙ is) (omega arith) old in (
          ap (λ (z : Frame). z.counts (writer_of e.node.0)) (seen_before past (here w m s) (f - d) below) ∙ there.0
              ∙ sym (ap (λ (z : Frame). z.counts (writer_of e.node.0)) (seen_before past' (here w n t) (f - d) below)),
          ap (λ (z : Frame). z.values (writer_of e.node.0) 0) (seen_before past (here w m s) (f - d) below) ∙ there.1
              ∙ sym (ap (λ (z : Frame). z.values (writer_of e.node.0) 0) (seen_before past' (here w n t) (f - d) below)),
        )
  ]
    where
      by_cycle : q * (f / q) ≤ f - d → (b : Bool) → in_cycle w.graph.value e.node.0 ≡ b
          → ((seen f past (here w m s) (f - d)).counts (writer_of e.node.0) ≡ (seen f past' (here w n t) (f - d)).counts (writer_of e.node.0))
          × ((seen f past (here w m s) (f - d)).values (writer_of e.node.0) 0 ≡ (seen f past' (here w n t) (f - d)).values (writer_of e.node.0) 0)
      by_cycle now true cycle = let l = long cycle in let high : f < q * (f / q) + q = omega arith in absurd (omega arith)
      by_cycle now false none =
          let a : arrow w.graph.value (writer_of e.node.0) e ≡ true = subst (λ x. arrow w.graph.value (writer_of e.node.0) x ≡ true) (sym reader) (writer_arrow w.graph.value e.node.0 (joined.delays e.node.0 ∙ is) none) in
          writer_like is a _ _ (like_now (f - d) now (omega arith))

  -- and what the reader gives
  delayed_like : is_delay_kind (kind_of w e.node.0) ≡ true → e ≡ reader_of e.node.0 → (c : ℕ) → delayed q f past (here w m s) e.node.0 c ≡ delayed q f past' (here w n t) e.node.0 c
  delayed_like is reader c = ap (given past (here w m s)) (frames_like reader) ∙ by_birth (nat_lt f (node.attrs.birth + d)) refl
    where
      d : ℕ
      d = delay_frames q f past' (here w n t) e.node.0

      given : (ℕ → Frame) → Frame → ℕ → ℤ
      given before now k =
          let x = seen f before now (f - k) in
          if nat_lt f (node.attrs.birth + k) then pos 0 else mix node.attrs.interp (x.counts (writer_of e.node.0)) (now.counts (reader_of e.node.0)) (x.values (writer_of e.node.0) 0) c

      mixed : (ℕ → Frame) → Frame → ℤ
      mixed before now =
          let x = seen f before now (f - d) in
          mix node.attrs.interp (x.counts (writer_of e.node.0)) (now.counts (reader_of e.node.0)) (x.values (writer_of e.node.0) 0) c

      by_birth : (b : Bool) → nat_lt f (node.attrs.birth + d) ≡ b → (if b then pos 0 else mixed past (here w m s)) ≡ (if b then pos 0 else mixed past' (here w n t))
      by_birth true unborn = refl
      by_birth false born =
          let asked = asked_like is reader d (λ cycle. quantum_long (in_cycle w.graph.value e.node.0) _ cycle) (grind (arith, nat_tests)) in
          ap (λ from. mix node.attrs.interp from (m (reader_of e.node.0)) ((seen f past (here w m s) (f - d)).values (writer_of e.node.0) 0) c) asked.0
          ∙ ap (λ to. mix node.attrs.interp ((seen f past' (here w n t) (f - d)).counts (writer_of e.node.0)) to ((seen f past (here w m s) (f - d)).values (writer_of e.node.0) 0) c) (subst (λ x. m x ≡ n x) reader own)
          ∙ ap (λ (values : ℕ → ℤ). mix node.attrs.interp ((seen f past' (here w n t) (f - d)).counts (writer_of e.node.0)) (n (reader_of e.node.0)) values c) asked.1

  level_like : e ≡ reader_of e.node.0 → (param : Option ParamRow) → level_of q f past (here w m s) e.node.0 param ≡ level_of q f past' (here w n t) e.node.0 param
  level_like is None = refl
  level_like is (Some row) = computed_like is row.name

  by_end : is_delay_kind (kind_of w e.node.0) ≡ true → (c : ℕ) (b : Bool) → e.writer ≡ b → (if b then input_value (here w m s) e.node.0 0 c else delayed q f past (here w m s) e.node.0 c)
      ≡ (if b then input_value (here w n t) e.node.0 0 c else delayed q f past' (here w n t) e.node.0 c)
  by_end delay c true writer = input_like w joined m n s t e (writer_end w joined e delay writer) agree_counts agree 0 c
  by_end delay c false reader = delayed_like delay (reader_end e reader) c

  by_row : (o c : ℕ) (k : Kind) → kind_of w e.node.0 ≡ k → (keeps : Keeps) (plays : Option Plays) → (row k).keeps ≡ keeps
      → value_by_row q f past (here w m s) keeps plays k e o c ≡ value_by_row q f past' (here w n t) keeps plays k e o c
  by_row o c k is Nothing None are =
      let plain : is_delay_kind (kind_of w e.node.0) ≡ false = ap is_delay_kind is ∙ ap is_written are in
      ap₂ (made_of k) (input_like w joined m n s t e (plain_end w joined e h plain) agree_counts agree (taken_from k o c).0 (taken_from k o c).1) (level_like (plain_reader w joined e h plain) (row k).param)
  by_row o c k is Nothing (Some Value) are = ap (λ x. if sounds_at w e.node.0 f then x else pos 0) (level_like (plain_reader w joined e h (ap is_delay_kind is ∙ ap is_written are)) (row k).param)
  by_row o c k is Nothing (Some (Content rate)) are = refl
  by_row o c k is Heard plays are = ap (causal_value k) (heard_like (ap remembers is ∙ ap is_heard are) (plain_end w joined e h (ap is_delay_kind is ∙ ap is_written are)) c)
  by_row o c k is (Written frames) plays are = by_end (ap is_delay_kind is ∙ ap is_written are) c e.writer refl

  by_kind : (o c : ℕ) (k : Kind) → kind_of w e.node.0 ≡ k → value_by_kind q f past (here w m s) k e o c ≡ value_by_kind q f past' (here w n t) k e o c
  by_kind o c k is = by_row o c k is (row k).keeps (row k).plays refl

  pub equation_sees : equation q f past (here w m s) e ≡ equation q f past' (here w n t) e
  unfolding equation
  equation_sees = fun_ext (λ o. fun_ext (λ c.
      ap (λ k. if muted w.graph.value e then pos 0 else if nat_lt o (outputs (kind_of w e.node.0)) && nat_lt c k then value_by_kind q f past (here w m s) (kind_of w e.node.0) e o c else pos 0) own
      ∙ ap (λ x. if muted w.graph.value e then pos 0 else if has_channel w n e o c then x else pos 0) (by_kind o c _ refl)))
