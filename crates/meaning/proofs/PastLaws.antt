-- One more quantum after two tapes of one past.
use Rattle.std.proofs.Common.{ℕ, ℤ, pos, zero, suc, ◌≡◌, ◌+◌, ◌-◌, ◌*◌, ◌/◌, ◌<◌, ◌≤◌, length, List, [], ◌∷◌, ◌++◌, Bool, true, false, ◌⊎◌, inl, inr, refl, sym, ◌∙◌, ap, arith, subst, length-append, add-mul}
use mathlib.Core.Path.{fun_ext}
use Rattle.std.proofs.Math.Nat.{mul_comm}
use Rattle.std.specs.Prelude.{if◌then◌else◌, nat_lt, nat_le, ◌&&◌}
use Rattle.std.proofs.lemmas.Nat.{div-mul-add, le-div}
use Rattle.std.proofs.lemmas.Bool.Decides.{nat_tests}
use Rattle.wa_base.specs.declared.graph_names.End.{End}
use Rattle.wa_base.specs.declared.graph_names.ParamId.{ParamId}
use Rattle.law_base.specs.Members.{IsIn}
use Rattle.law_base.specs.Heights.{at_height, at_moment, before}
use Rattle.law_base.proofs.SchemeLaws.{moment-zero}
use Rattle.node_table.specs.Kinds.{is_delay_kind, remembers}
use Rattle.node_table.specs.declared.kinds.Kind.{Kind}
use Rattle.conn_graph.specs.Graph.{Connections}
use Rattle.conn_graph.specs.Ends.{writer_of, reader_of, input_end, ends, is_delay, height, muted}
use Rattle.conn_graph.proofs.EndLaws.{has_end, has_writer}
use Rattle.meaning.specs.declared.world.World.{World}
use Rattle.meaning.specs.World.{sounding, node_at, kind_of}
use Rattle.meaning.specs.Validity.{IsJoined}
use Rattle.meaning.specs.Counts.{Counts, world_in, count_rule, count_scheme, count_at, count}
use Rattle.meaning.specs.Values.{Frame, Values, no_frame, world_at, known_at, taken_in, computed_value, equation, value_scheme, value_at, value, frame, frames_before, param_value}
use Rattle.meaning.specs.Pasts.{last_world, heard, written, past}
use Rattle.meaning.proofs.CountLaws.{SameBefore, count_rule_alike, counts_before_are}
use Rattle.meaning.proofs.Seeing.{LikeFor, SeesFor, input_like, computed_like, equation_sees}
use Rattle.meaning.proofs.Successors.{div-le-div, SamePast}
use Rattle.meaning.proofs.ValueLaws.{value_suc}
use Rattle.meaning.proofs.TapeLaws.{world_after, count_before, quantum_below, frame_before}

module _ (q : ℕ) (some : 0 < q) (w : World) (joined : IsJoined (sounding w)) (tape tape' : List World) (same : SamePast q w tape tape') where
  abbrev g : Connections
  g = w.graph.value

  abbrev longer : List World
  longer = tape ++ w ∷ []

  abbrev longer' : List World
  longer' = tape' ++ w ∷ []

  world_new : world_in longer (length tape) ≡ sounding w
  world_new = world_after tape w (length tape) refl

  world_new' : world_in longer' (length tape) ≡ sounding w
  world_new' = world_after tape' w (length tape) same.quanta

  -- the writers of the delays had as many channels before
  counted_before : (u : List World) (k : ℕ) → k < length tape → before (count_scheme q) (world_in u) (length tape) k ≡ count q u k
  counted_before u k l = ap (λ (p : ℕ → Counts). p k) (counts_before_are q u (length tape)) ∙ ap (λ b. if b then count q u k else λ e. 1) (below k (length tape) l)
    where
      below : (a b : ℕ) → a < b → nat_lt a b ≡ true
      below a b l = grind (arith, nat_tests)

  same_before : SameBefore q (sounding w) (length tape) (before (count_scheme q) (world_in longer) (length tape)) (before (count_scheme q) (world_in longer') (length tape))
  same_before n k is low high =
      ap (λ (c : Counts). c (writer_of n)) (counted_before longer k high ∙ count_before q tape w k high)
      ∙ same.counts n k is low high
      ∙ sym (ap (λ (c : Counts). c (writer_of n)) (counted_before longer' k high ∙ count_before q tape' w k (subst (λ j. k < j) same.quanta high)))

  counts_new : count q longer (length tape) ≡ count q longer' (length tape)
  unfolding count count_at at_moment height
  counts_new =
      let past : ℕ → Counts = before (count_scheme q) (world_in longer) (length tape) in
      let past' : ℕ → Counts = before (count_scheme q) (world_in longer') (length tape) in
      ap (λ x. at_height (λ e. 1) (count_rule q x (length tape) past) (height x.graph.value)) world_new
      ∙ ap (λ r. at_height (λ e. 1) r (height g)) (count_rule_alike q (sounding w) (length tape) past past' same_before)
      ∙ sym (ap (λ x. at_height (λ e. 1) (count_rule q x (length tape) past') (height x.graph.value)) world_new')

  -- a frame of the new quantum in the one tape and in the other
  frame_new : (f : ℕ) → f / q ≡ length tape → (s : Values)
      → (let x : Frame = record { world = world_at q longer f; counts = count q longer (f / q); values = s } in x) ≡ record { world = sounding w; counts = count q longer (length tape); values = s }
  frame_new f here s =
      ap (λ k. let x : Frame = record { world = world_in longer k; counts = count q longer k; values = s } in x) here
      ∙ ap (λ x. let y : Frame = record { world = x; counts = count q longer (length tape); values = s } in y) world_new

  frame_new' : (f : ℕ) → f / q ≡ length tape → (s : Values)
      → (let x : Frame = record { world = world_at q longer' f; counts = count q longer' (f / q); values = s } in x) ≡ record { world = sounding w; counts = count q longer (length tape); values = s }
  frame_new' f here s =
      ap (λ k. let x : Frame = record { world = world_in longer' k; counts = count q longer' k; values = s } in x) here
      ∙ ap (λ x. let y : Frame = record { world = x; counts = count q longer' (length tape); values = s } in y) world_new'
      ∙ ap (λ c. let y : Frame = record { world = sounding w; counts = c; values = s } in y) (sym counts_new)

  -- the frames of the new quantum before f agree on each end
  abbrev AgreeBefore : ℕ → Type 0
  AgreeBefore f = (n : ℕ) → q * length tape ≤ n → n < f → (d : End) → IsIn d (ends g) → value q longer n d ≡ value q longer' n d

  seen_now : (u : List World) (f n : ℕ) → n < f → frames_before q u f n ≡ frame q u n
  seen_now u f n low = ap (λ b. if b then frame q u n else no_frame) (below low)
    where
      below : n < f → nat_lt n f ≡ true
      below low = grind (arith, nat_tests)

  quantum_at : (n f : ℕ) → f / q ≡ length tape → q * length tape ≤ n → n < f → n / q ≡ length tape
  quantum_at n f here low high =
      let a : length tape ≤ n / q = le-div (length tape) n q some (subst (λ k. k ≤ n) (mul_comm q (length tape)) low) in
      let b : n / q ≤ f / q = div-le-div n f q some (omega arith) in
      let c : n / q ≤ length tape = subst (λ k. n / q ≤ k) here b in
      omega arith

  old_frames : (n : ℕ) → n < q * length tape → (frame q longer n ≡ frame q tape n) × (frame q longer' n ≡ frame q tape' n)
  old_frames n l = (frame_before q some tape w n l, frame_before q some tape' w n (subst (λ k. n < q * k) same.quanta l))

  -- what the writer of a delay took in before is the same
  writer_old : (i n : ℕ) → is_delay g i ≡ true → (node_at w i).attrs.birth ≤ n → n < q * length tape
      → ((frame q longer n).counts (writer_of i) ≡ (frame q longer' n).counts (writer_of i)) × (value q longer n (writer_of i) 0 ≡ value q longer' n (writer_of i) 0)
  writer_old i n is low l =
      let delay : is_delay_kind (kind_of w i) ≡ true = sym (joined.delays i) ∙ is in
      let frames = old_frames n l in
      let quantum : n / q < length tape = quantum_below q n (length tape) some l in
      let born : (node_at w i).attrs.birth / q ≤ n / q = div-le-div (node_at w i).attrs.birth n q some low in (
        ap (λ (x : Frame). x.counts (writer_of i)) frames.0 ∙ same.counts i (n / q) delay born quantum ∙ sym (ap (λ (x : Frame). x.counts (writer_of i)) frames.1),
        ap (λ (x : Frame). x.values (writer_of i) 0) frames.0
            ∙ fun_ext (λ c. same.written i n c delay low l)
            ∙ sym (ap (λ (x : Frame). x.values (writer_of i) 0) frames.1),
      )

  sees_at : (f : ℕ) → f / q ≡ length tape → AgreeBefore f → (e : End) → SeesFor q f (sounding w) e (frames_before q longer f) (frames_before q longer' f)
  sees_at f here agree e = record {
    recent = λ n low high.
        let low' : q * length tape ≤ n = subst (λ j. q * j ≤ n) here low in
        let there : n / q ≡ length tape = quantum_at n f here low' high in
        LikeFor.alike (count q longer (length tape)) (count q longer (length tape)) (value q longer n) (value q longer' n)
        (seen_now longer f n high ∙ frame_new n there (value q longer n))
        (seen_now longer' f n high ∙ frame_new' n there (value q longer' n))
        (λ d in_d a. refl)
        (λ d in_d a. agree n low' high d in_d);
    delays = λ n is low high.
        let old : n < q * length tape = subst (λ j. n < q * j) here high in
        let below : n < f = let s : q * (f / q) ≤ f = omega arith in omega arith in
        let k = writer_old e.node.0 n is low old in (
          ap (λ (x : Frame). x.counts (writer_of e.node.0)) (seen_now longer f n below) ∙ k.0 ∙ sym (ap (λ (x : Frame). x.counts (writer_of e.node.0)) (seen_now longer' f n below)),
          ap (λ (x : Frame). x.values (writer_of e.node.0) 0) (seen_now longer f n below) ∙ k.1 ∙ sym (ap (λ (x : Frame). x.values (writer_of e.node.0) 0) (seen_now longer' f n below)),
        );
    heard = λ n c is low high.
        let old : n < q * length tape = subst (λ j. n < q * j) here high in
        let below : n < f = let s : q * (f / q) ≤ f = omega arith in omega arith in
        let frames = old_frames n old in
        ap (λ x. taken_in x e.node.0 c) (seen_now longer f n below ∙ frames.0)
        ∙ same.heard e.node.0 n c is low old
        ∙ sym (ap (λ x. taken_in x e.node.0 c) (seen_now longer' f n below ∙ frames.1));
  }

  one_up : (f h : ℕ) → f / q ≡ length tape → AgreeBefore f → ((d : End) → IsIn d (ends g) → value_at q longer f h d ≡ value_at q longer' f h d)
      → (e : End) → IsIn e (ends g) → value_at q longer f (suc h) e ≡ value_at q longer' f (suc h) e
  one_up f h here agree below e is =
      ap (λ (v : Values). v e) (value_suc q longer f h)
      ∙ ap (λ (x : Frame). equation q f (frames_before q longer f) x e) (frame_new f here (value_at q longer f h))
      ∙ equation_sees q some (sounding w) joined f (frames_before q longer f) (frames_before q longer' f) e is (sees_at f here agree e)
      (count q longer (length tape)) (count q longer (length tape)) refl (λ d in_d a. refl)
      (value_at q longer f h) (value_at q longer' f h) (λ d in_d a. below d in_d)
      ∙ sym (ap (λ (x : Frame). equation q f (frames_before q longer' f) x e) (frame_new' f here (value_at q longer' f h)))
      ∙ sym (ap (λ (v : Values). v e) (value_suc q longer' f h))

  each_height : (f : ℕ) → f / q ≡ length tape → AgreeBefore f → (h : ℕ) → (e : End) → IsIn e (ends g) → value_at q longer f h e ≡ value_at q longer' f h e
  unfolding value_at
  each_height f here agree zero e is =
      ap (λ (v : Values). v e) (moment-zero (value_scheme q) (known_at q longer) f ∙ sym (moment-zero (value_scheme q) (known_at q longer') f))
  each_height f here agree (suc h) e is = one_up f h here agree (each_height f here agree h) e is

  full_height : (f : ℕ) → f / q ≡ length tape → AgreeBefore f → (e : End) → IsIn e (ends g) → value q longer f e ≡ value q longer' f e
  unfolding value
  full_height f here agree e is =
      each_height f here agree (height (world_at q longer f).graph.value) e is
      ∙ ap (λ (x : World). value_at q longer' f (height x.graph.value) e)
      (ap (world_in longer) here ∙ world_new ∙ sym (ap (world_in longer') here ∙ world_new'))

  quantum_new : (m : ℕ) → m < q → (q * length tape + m) / q ≡ length tape
  quantum_new m l = ap (λ x. (x + m) / q) (mul_comm q (length tape)) ∙ div-mul-add (length tape) q m l

  -- the first m frames of the new quantum
  frames_new : (m : ℕ) → m ≤ q → AgreeBefore (q * length tape + m)
  frames_new zero few n low high d is = absurd (omega arith)
  frames_new (suc m) few n low high d is = elim (last_or_not n m low high) [
    | inl l ↦ frames_new m (omega arith) n low l d is
    | inr e ↦ subst (λ k. value q longer k d ≡ value q longer' k d) (sym e) (full_height (q * length tape + m) (quantum_new m (omega arith)) (frames_new m (omega arith)) d is)
  ]
    where
      last_or_not : (n m : ℕ) → q * length tape ≤ n → n < q * length tape + suc m → (n < q * length tape + m) ⊎ (n ≡ q * length tape + m)
      last_or_not n m low high = grind arith

  pub value_new : (f : ℕ) (e : End) → f / q ≡ length tape → IsIn e (ends g) → value q longer f e ≡ value q longer' f e
  value_new f e here is =
      let low : q * (f / q) ≤ f = omega arith in
      let high : f < q * (f / q) + q = omega arith in
      frames_new q (omega arith) f (subst (λ j. q * j ≤ f) here low) (subst (λ j. f < q * j + q) here high) e is

  pub count_new : (e : End) → count q longer (length tape) e ≡ count q longer' (length tape) e
  count_new e = ap (λ (c : Counts). c e) counts_new

  pub param_new : (f : ℕ) (id : ParamId) → f / q ≡ length tape → id.node.0 < length g.nodes → param_value q longer f id ≡ param_value q longer' f id
  param_new f id here there =
      let e : End = reader_of id.node.0 in
      let agree = frames_new q (omega arith) in
      let low : q * (f / q) ≤ f = omega arith in
      let high : f < q * (f / q) + q = omega arith in
      let before : AgreeBefore f = λ n from to d in_d. agree n from (let top = subst (λ j. f < q * j + q) here high in omega arith) d in_d in
      ap (λ x. computed_value q f (frames_before q longer f) x id) (frame_new f here (value q longer f))
      ∙ computed_like q some (sounding w) joined f (frames_before q longer f) (frames_before q longer' f) e (has_end g id.node.0 there) (sees_at f here before e)
      (count q longer (length tape)) (count q longer (length tape)) refl (λ d in_d a. refl)
      (value q longer f) (value q longer' f) (λ d in_d a. value_new f d here in_d) refl id.name
      ∙ sym (ap (λ x. computed_value q f (frames_before q longer' f) x id) (frame_new' f here (value q longer' f)))

  next_length : q * length longer ≡ q * length tape + q
  next_length = ap (λ n. q * n) (length-append tape (w ∷ [])) ∙ mul_comm q (length tape + 1) ∙ omega (arith, add-mul (length tape) 1 q, mul_comm q (length tape))

  old_or_new : (f : ℕ) → (f < q * length tape) ⊎ (q * length tape ≤ f)
  old_or_new f = grind arith

  new_quantum : (f : ℕ) → q * length tape ≤ f → f < q * length longer → f / q ≡ length tape
  new_quantum f low high =
      subst (λ k. k / q ≡ length tape) (let back : q * length tape + (f - q * length tape) ≡ f = omega arith in back)
      (quantum_new (f - q * length tape) (let short = subst (λ k. f < k) next_length high in omega arith))

  -- what an input takes in is the same in the frames before, and in those of the new quantum
  heard_new : (n f c : ℕ) → remembers (kind_of w n) ≡ true → (node_at w n).attrs.birth ≤ f → f < q * length longer → heard q longer n f c ≡ heard q longer' n f c
  heard_new n f c is low high = elim (old_or_new f) [
    | inl l ↦
        let frames = old_frames f l in
        ap (λ x. taken_in x n c) frames.0 ∙ same.heard n f c is low l ∙ sym (ap (λ x. taken_in x n c) frames.1)
    | inr l ↦
        let here : f / q ≡ length tape = new_quantum f l high in
        let e : End = input_end g n in
        ap (λ x. taken_in x n c) (frame_new f here (value q longer f))
        ∙ ap (λ x. if muted g e then pos 0 else x)
        (input_like (sounding w) joined (count q longer (length tape)) (count q longer (length tape)) (value q longer f) (value q longer' f) e refl (λ d in_d a. refl) (λ d in_d a. value_new f d here in_d) 0 c)
        ∙ sym (ap (λ x. taken_in x n c) (frame_new' f here (value q longer' f)))
  ]

  -- and what the writer of a delay took in
  written_new : (n f c : ℕ) → is_delay_kind (kind_of w n) ≡ true → (node_at w n).attrs.birth ≤ f → f < q * length longer → written q longer n f c ≡ written q longer' n f c
  written_new n f c is low high = elim (old_or_new f) [
    | inl l ↦
        let frames = old_frames f l in
        ap (λ (x : Frame). x.values (writer_of n) 0 c) frames.0 ∙ same.written n f c is low l ∙ sym (ap (λ (x : Frame). x.values (writer_of n) 0 c) frames.1)
    | inr l ↦ ap (λ (v : ℕ → ℕ → ℤ). v 0 c) (value_new f (writer_of n) (new_quantum f l high) (has_writer g n (joined.delays n ∙ is)))
  ]

  counts_old_or_new : (n k : ℕ) → is_delay_kind (kind_of w n) ≡ true → (node_at w n).attrs.birth / q ≤ k → k < length longer → count q longer k (writer_of n) ≡ count q longer' k (writer_of n)
  counts_old_or_new n k is low high = elim (quantum_old_or_new k high) [
    | inl l ↦ ap (λ (c : Counts). c (writer_of n)) (count_before q tape w k l) ∙ same.counts n k is low l
        ∙ sym (ap (λ (c : Counts). c (writer_of n)) (count_before q tape' w k (subst (λ j. k < j) same.quanta l)))
    | inr e ↦ subst (λ j. count q longer j (writer_of n) ≡ count q longer' j (writer_of n)) (sym e) (count_new (writer_of n))
  ]
    where
      quantum_old_or_new : (k : ℕ) → k < length longer → (k < length tape) ⊎ (k ≡ length tape)
      quantum_old_or_new k high = let long : length longer ≡ length tape + 1 = length-append tape (w ∷ []) in grind arith

  pub same_length : length longer ≡ length longer'
  same_length = length-append tape (w ∷ []) ∙ ap (λ n. n + 1) same.quanta ∙ sym (length-append tape' (w ∷ []))

  -- what a past has of a node, by the last world, the length, and what there is to have
  abbrev kept_frames : (Kind → Bool) → World → ℕ → (ℕ → ℕ → ℕ → ℤ) → ℕ → ℕ → ℕ → ℤ
  kept_frames test x k h n f c = let node = node_at x n in if test node.kind && (nat_le node.attrs.birth f && nat_lt f (q * k)) then h n f c else pos 0

  abbrev kept_counts : World → ℕ → (ℕ → ℕ → ℕ) → ℕ → ℕ → ℕ
  kept_counts x k h n j = let node = node_at x n in if is_delay_kind node.kind && (nat_le (node.attrs.birth / q) j && nat_lt j k) then h n j else 1

  last_is : last_world longer ≡ sounding w
  last_is = world_after tape w (length longer - 1) (omega (arith, length-append tape (w ∷ [])))

  last_is' : last_world longer' ≡ sounding w
  last_is' = world_after tape' w (length longer' - 1) (omega (arith, length-append tape' (w ∷ [])))

  frames_same : (test : Kind → Bool) (h h' : ℕ → ℕ → ℕ → ℤ)
      → ((n f c : ℕ) → test (kind_of w n) ≡ true → (node_at w n).attrs.birth ≤ f → f < q * length longer → h n f c ≡ h' n f c)
      → kept_frames test (last_world longer) (length longer) h ≡ kept_frames test (last_world longer') (length longer') h'
  frames_same test h h' each = fun_ext (λ n. fun_ext (λ f. fun_ext (λ c.
      ap (λ x. kept_frames test x (length longer) h n f c) last_is
      ∙ by_test n f c (test (kind_of w n)) (nat_le (node_at w n).attrs.birth f) (nat_lt f (q * length longer)) refl refl refl
      ∙ ap (λ k. kept_frames test (sounding w) k h' n f c) same_length
      ∙ sym (ap (λ x. kept_frames test x (length longer') h' n f c) last_is'))))
    where
      by_test : (n f c : ℕ) (a b d : Bool) → test (kind_of w n) ≡ a → nat_le (node_at w n).attrs.birth f ≡ b → nat_lt f (q * length longer) ≡ d
          → (if a && (b && d) then h n f c else pos 0) ≡ (if a && (b && d) then h' n f c else pos 0)
      by_test n f c true true true is low high = each n f c is (let l : (node_at w n).attrs.birth ≤ f = grind (arith, nat_tests) in l) (let h : f < q * length longer = grind (arith, nat_tests) in h)
      by_test n f c true true false is low high = refl
      by_test n f c true false d is low high = refl
      by_test n f c false b d is low high = refl

  counts_same : (past q longer).counts ≡ (past q longer').counts
  counts_same = fun_ext (λ n. fun_ext (λ j.
      ap (λ x. kept_counts x (length longer) (λ i k. count q longer k (writer_of i)) n j) last_is
      ∙ by_test n j (is_delay_kind (kind_of w n)) (nat_le ((node_at w n).attrs.birth / q) j) (nat_lt j (length longer)) refl refl refl
      ∙ ap (λ k. kept_counts (sounding w) k (λ i k. count q longer' k (writer_of i)) n j) same_length
      ∙ sym (ap (λ x. kept_counts x (length longer') (λ i k. count q longer' k (writer_of i)) n j) last_is')))
    where
      by_test : (n j : ℕ) (a b d : Bool) → is_delay_kind (kind_of w n) ≡ a → nat_le ((node_at w n).attrs.birth / q) j ≡ b → nat_lt j (length longer) ≡ d
          → (if a && (b && d) then count q longer j (writer_of n) else 1) ≡ (if a && (b && d) then count q longer' j (writer_of n) else 1)
      by_test n j true true true is low high = counts_old_or_new n j is (let l : (node_at w n).attrs.birth / q ≤ j = grind (arith, nat_tests) in l) (let h : j < length longer = grind (arith, nat_tests) in h)
      by_test n j true true false is low high = refl
      by_test n j true false d is low high = refl
      by_test n j false b d is low high = refl

  -- Both pasts are longer by the same quantum.
  pub past_new : past q longer ≡ past q longer'
  past_new i = record {
    quanta = same_length i;
    heard = frames_same remembers (heard q longer) (heard q longer') heard_new i;
    written = frames_same is_delay_kind (written q longer) (written q longer') written_new i;
    counts = counts_same i;
  }
