-- One more end along a legal order.
use Rattle.std.proofs.Common.{ℕ, ℤ, pos, ◌≡◌, ◌+◌, ◌*◌, ◌<◌, ◌≤◌, length, List, [], ◌∷◌, ◌++◌, slice_index_or, Bool, true, false, ◌⊎◌, inl, inr, refl, sym, ◌∙◌, ap, arith, subst}
use mathlib.Core.Path.{fun_ext}
use Rattle.std.specs.Prelude.{if◌then◌else◌, nat_lt, ◌&&◌}
use Rattle.std.proofs.lemmas.List.{get_or_default}
use Rattle.std.proofs.lemmas.Bool.Decides.{nat_tests}
use Rattle.wa_base.specs.declared.graph_names.End.{End}
use Rattle.law_base.specs.Members.{IsIn}
use Rattle.node_table.specs.Kinds.{outputs}
use Rattle.conn_graph.specs.Ends.{same_end, ends, muted}
use Rattle.conn_graph.proofs.EndLaws.{same_end_is}
use Rattle.meaning.specs.declared.world.World.{World}
use Rattle.meaning.specs.World.{sounding, kind_of}
use Rattle.meaning.specs.Validity.{IsJoined}
use Rattle.meaning.specs.Values.{frame, equation, value_by_kind, value}
use Rattle.meaning.specs.Blocks.{with_drafts}
use Rattle.meaning.proofs.OrderLaws.{known_before}
use Rattle.meaning.proofs.QuantumLaws.{AreRight, HasCounts, HasSources, block_right}
use Rattle.quantum_blocks.specs.Blocks.{BlockView, at, shown, carried, block_of, counts_in, drafts_of, frame_of, IsSilent, Writes}
use Rattle.quantum_blocks.proofs.Slots.{not_same, lane_low, lane_high}

module _ (q : ℕ) (some : 0 < q) (w : World) (joined : IsJoined (sounding w)) (tape : List World) (blocks blocks' : List BlockView) (counts : List ℕ)
    (counted : HasCounts q (tape ++ w ∷ []) (length tape) w (counts_in counts)) (done : List End) (right : AreRight q (tape ++ w ∷ []) (length tape) w (drafts_of blocks counts) done)
    (x : End) (in_x : IsIn x (ends w.graph.value)) (unmuted : muted w.graph.value x ≡ false) (sources : HasSources w done x)
    (lanes : (block_of blocks' x).lanes ≡ outputs (kind_of w x.node.0) * counts_in counts x) (writes : Writes blocks blocks' x)
    (renders : (o c m : ℕ) → o < outputs (kind_of w x.node.0) → c < counts_in counts x → m < q → at (block_of blocks' x) (o * counts_in counts x + c) m
    ≡ value_by_kind q (q * length tape + m) (with_drafts (frame q (tape ++ w ∷ [])) (q * length tape) (sounding w) (counts_in counts) (drafts_of blocks counts)) (frame_of (sounding w) blocks counts m) (kind_of w x.node.0) x o c) where
  abbrev longer : List World
  longer = tape ++ w ∷ []

  abbrev first : ℕ
  first = q * length tape

  abbrev outs : ℕ
  outs = outputs (kind_of w x.node.0)

  abbrev n : ℕ
  n = counts_in counts x

  -- the end that is rendered is right
  own_right : (m : ℕ) → m < q → drafts_of blocks' counts m x ≡ value q longer (first + m) x
  unfolding equation
  own_right m l =
      fun_ext (λ o. fun_ext (λ c. by_channel o c (nat_lt o outs) (nat_lt c n) refl refl))
      ∙ block_right q some w joined tape (counts_in counts) counted (drafts_of blocks counts) done right x in_x sources m l
    where
      v : ℕ → ℕ → ℤ
      v o c = value_by_kind q (first + m) (with_drafts (frame q longer) first (sounding w) (counts_in counts) (drafts_of blocks counts)) (frame_of (sounding w) blocks counts m) (kind_of w x.node.0) x o c

      by_channel : (o c : ℕ) (a b : Bool) → nat_lt o outs ≡ a → nat_lt c n ≡ b
          → (if b then shown (block_of blocks' x) m (o * n + c) else pos 0) ≡ (if muted w.graph.value x then pos 0 else if a && b then v o c else pos 0)
      by_channel o c true true s t =
          let output : o < outs = grind (arith, nat_tests) in
          let channel : c < n = grind (arith, nat_tests) in
          let inside : nat_lt (o * n + c) (block_of blocks' x).lanes ≡ true = let low = lane_low o outs n c output channel in rw lanes (grind (arith, nat_tests)) in
          ap (λ k. if k then at (block_of blocks' x) (o * n + c) m else pos 0) inside
          ∙ renders o c m output channel l
          ∙ ap (λ k. if k then pos 0 else v o c) (sym unmuted)
      by_channel o c false true s t =
          let past : outs ≤ o = grind (arith, nat_tests) in
          let outside : nat_lt (o * n + c) (block_of blocks' x).lanes ≡ false = let high = lane_high o outs n c past in rw lanes (grind (arith, nat_tests)) in
          ap (λ k. if k then at (block_of blocks' x) (o * n + c) m else pos 0) outside
          ∙ ap (λ (k : Bool). if k then pos 0 else pos 0) (sym unmuted)
      by_channel o c true false s t = ap (λ (k : Bool). if k then pos 0 else pos 0) (sym unmuted)
      by_channel o c false false s t = ap (λ (k : Bool). if k then pos 0 else pos 0) (sym unmuted)

  pub one_more_right : AreRight q longer (length tape) w (drafts_of blocks' counts) (x ∷ done)
  one_more_right m l d in_d known = by_test (same_end d x) refl
    where
      by_test : (b : Bool) → same_end d x ≡ b → drafts_of blocks' counts m d ≡ value q longer (first + m) d
      by_test true t = subst (λ (e : End). drafts_of blocks' counts m e ≡ value q longer (first + m) e) (sym (same_end_is d x t)) (own_right m l)
      by_test false t =
          ap (λ b. λ o. carried b (counts_in counts d) o m) (writes.others d (not_same d x t)) ∙ right m l d in_d (known_before w.graph.value x done d known t)

-- what was silent stays so where an end is silenced
pub stays_silent : (blocks blocks' : List BlockView) (e : End) → Writes blocks blocks' e → IsSilent blocks' e → (d : End) → IsSilent blocks d → IsSilent blocks' d
stays_silent blocks blocks' e writes own d = by_end (same_end d e) refl
  where
    by_end : (b : Bool) → same_end d e ≡ b → IsSilent blocks d → IsSilent blocks' d
    by_end true t old = subst (IsSilent blocks') (sym (same_end_is d e t)) own
    by_end false t old = subst (λ (b : BlockView). (lane m : ℕ) → lane < b.lanes → m < b.frames → at b lane m ≡ pos 0) (sym (writes.others d (not_same d e t))) old

-- one more end is silent
pub silent_more : (blocks blocks' : List BlockView) (mute : List End) (k : ℕ) (e : End) → Writes blocks blocks' (slice_index_or mute k e) → IsSilent blocks' (slice_index_or mute k e) → k < length mute
    → ((i : ℕ) (d : End) → i < k → IsSilent blocks (slice_index_or mute i d))
    → (i : ℕ) (d : End) → i < k + 1 → IsSilent blocks' (slice_index_or mute i d)
silent_more blocks blocks' mute k e writes own within silent i d l = by_place (before_or_here i k l)
  where
    before_or_here : (i k : ℕ) → i < k + 1 → (i < k) ⊎ (i ≡ k)
    before_or_here i k l = grind arith

    by_place : (i < k) ⊎ (i ≡ k) → IsSilent blocks' (slice_index_or mute i d)
    by_place (inl before) = stays_silent blocks blocks' (slice_index_or mute k e) writes own (slice_index_or mute i d) (silent i d before)
    by_place (inr here) = subst (IsSilent blocks') (sym (ap (λ j. slice_index_or mute j d) here ∙ get_or_default mute k d e within)) own
