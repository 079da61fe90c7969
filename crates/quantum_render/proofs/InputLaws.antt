-- What an input carries, from the sums over its connections.
use Rattle.std.proofs.Common.{ℕ, ℤ, pos, negsuc, ◌≡◌, ◌<◌, List, [], ◌∷◌, map, filter, true, cond, refl, sym, ◌∙◌, ap, arith, FitsSigned}
use Rattle.std.specs.Int.{w32}
use Rattle.std.specs.Prelude.{if◌then◌else◌, nat_lt}
use Rattle.std.proofs.Math.IntN.{+ℤ_idr}
use Rattle.std.proofs.lemmas.Bool.Decides.{nat_tests}
use Rattle.wa_base.specs.Numbers.{sat}
use Rattle.wa_base.specs.declared.graph_names.Interp.{Interp}
use Rattle.mix_rules.specs.Mixing.{mix, total}
use Rattle.mix_rules.proofs.Laws.{mix_same}
use Rattle.conn_graph.specs.declared.edges.Edge.{Edge}
use Rattle.conn_graph.specs.declared.edges.Target.TheVariants.{Input}
use Rattle.conn_graph.specs.Ends.{reader_of}
use Rattle.meaning.specs.declared.world.World.{World}
use Rattle.meaning.specs.World.{sounding, node_at}
use Rattle.meaning.specs.Counts.{input_channels}
use Rattle.meaning.specs.Values.{Frame, part, mixed_sum, input_value}
use Rattle.quantum_blocks.specs.Blocks.{BlockView, block_of, carried, counts_in, frame_of}
use Rattle.quantum_blocks.specs.Connections.{into, leads_to}
use Rattle.quantum_blocks.proofs.Sources.{input_sources}

-- saturating a Fix changes nothing
pub sat_of_fix : (x : ℤ) → FitsSigned w32 x → sat x ≡ x
sat_of_fix (pos n) fits = let k = fits.sfits in ap pos (omega arith)
sat_of_fix (negsuc n) fits = let k = fits.sfits in ap negsuc (omega arith)

module _ (w : World) (blocks : List BlockView) (counts : List ℕ) (node input c m to : ℕ) (low : c < to) (edges : List Edge) (here : edges ≡ into w.graph.value node)
    (channels : to ≡ input_channels (sounding w) (counts_in counts) node input) where
  abbrev x : Frame
  x = frame_of (sounding w) blocks counts m

  pub input_is : (interp : Interp) (sum : ℤ) → (node_at w node).attrs.interp ≡ interp
      → sum ≡ total (map (part x interp to c) (filter (leads_to (Input (record { 0 = node }) input)) edges))
      → sat sum ≡ input_value x node input c
  unfolding input_value
  input_is interp sum mixes is =
      ap sat is
      ∙ ap (λ es. mixed_sum x interp to c es) (ap (λ es. filter (leads_to (Input (record { 0 = node }) input)) es) here ∙ input_sources w.graph.value node input)
      ∙ ap (λ i. mixed_sum x i to c (filter (λ e. leads_to (Input (record { 0 = node }) input) e) w.graph.value.edges)) (sym mixes)
      ∙ ap (λ b. if b then mixed_sum x (node_at w node).attrs.interp to c (filter (λ e. leads_to (Input (record { 0 = node }) input) e) w.graph.value.edges) else pos 0) (sym inside)
      ∙ ap (λ n. if nat_lt c n then mixed_sum x (node_at w node).attrs.interp n c (filter (λ e. leads_to (Input (record { 0 = node }) input) e) w.graph.value.edges) else pos 0) channels
    where
      inside : nat_lt c to ≡ true
      inside = grind (arith, nat_tests)

  -- ---- one connection, which has the input's number of channels

  part_of_equal : (interp : Interp) (e : Edge) → counts_in counts (reader_of e.from.0) ≡ to
      → part x interp to c e ≡ carried (block_of blocks (reader_of e.from.0)) to e.output m c
  part_of_equal interp e same =
      ap (λ n. mix interp n to (carried (block_of blocks (reader_of e.from.0)) n e.output m) c) same
      ∙ mix_same interp to (carried (block_of blocks (reader_of e.from.0)) to e.output m) c low

  pub lone_input : (e : Edge) (v : ℤ) → edges ≡ e ∷ [] → leads_to (Input (record { 0 = node }) input) e ≡ true → counts_in counts (reader_of e.from.0) ≡ to
      → FitsSigned w32 v → v ≡ carried (block_of blocks (reader_of e.from.0)) to e.output m c → v ≡ input_value x node input c
  lone_input e v lone leads same fits is =
      sym (sat_of_fix v fits)
      ∙ input_is (node_at w node).attrs.interp v refl
      (is ∙ sym (part_of_equal (node_at w node).attrs.interp e same) ∙ sym (+ℤ_idr (parts e)) ∙ sym (ap (λ es. total (map parts es)) kept))
    where
      parts : Edge → ℤ
      parts = part x (node_at w node).attrs.interp to c

      kept : filter (leads_to (Input (record { 0 = node }) input)) edges ≡ e ∷ []
      kept = ap (λ es. filter (leads_to (Input (record { 0 = node }) input)) es) lone ∙ ap (λ b. cond b (e ∷ []) []) leads
