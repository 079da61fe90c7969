-- A causal node that hears what its input carries in a quantum.
use Rattle.std.proofs.Common.{ℕ, ℤ, pos, ◌≡◌, ◌+◌, ◌-◌, ◌*◌, ◌^◌, ◌<◌, ◌≤◌, length, List, take, max, slice_index_or, Bool, true, false, Some, inl, inr, refl, sym, ◌∙◌, ap, arith, subst}
use Rattle.std.specs.Prelude.{if◌then◌else◌, nat_lt, ◌==◌}
use Rattle.std.proofs.lemmas.Bool.{cases_lt}
use Rattle.std.proofs.lemmas.Bool.Decides.{nat_tests}
use Rattle.std.proofs.lemmas.List.{get_or-take, get_or_past, length-take-le}
use Rattle.wa_base.specs.Contexts.{quantum_of}
use Rattle.mix_rules.specs.Blocks.{sample}
use Rattle.node_table.specs.Equations.{equation_value}
use Rattle.node_table.specs.Frames.{item}
use Rattle.node_table.specs.declared.equation.Equation.{Equation}
use Rattle.node_table.specs.Kinds.{is_delay_kind}
use Rattle.node_table.specs.declared.kinds.Kind.TheVariants.{Causal}
use Rattle.conn_graph.specs.Ends.{input_end, muted}
use Rattle.meaning.specs.World.{sounding, node_at, kind_of}
use Rattle.meaning.specs.Counts.{input_channels}
use Rattle.conn_graph.specs.Graph.{edges_to_input}
use Rattle.meaning.specs.Lists.{since}
use Rattle.meaning.specs.Values.{Frame, mixed_sum, input_value, taken_in, frames_heard}
use Rattle.meaning.proofs.Joined.{joined}
use Rattle.meaning.proofs.Seeing.{plain_end, plain_reader, same_since}
use Rattle.filter_bank.specs.Heard.{HeardView, Brings, IsHeard, room_of as causal_room}
use Rattle.filter_bank.specs.Banks.{BankView, heard_at, HaveRoom, Hears}
use Rattle.quantum_blocks.specs.Blocks.{BlockView, at, shown, slot, counts_in}
use Rattle.quantum_blocks.specs.Held.{IsWidened}
use Rattle.quantum_render.specs.Sites.{SiteView, IsSite}
use Rattle.quantum_render.specs.declared.memory.Memory.{Memory}
use Rattle.quantum_render.specs.Renders.{IsReadyFor, past_of, here_of}
use Rattle.quantum_render.proofs.Listening.{heard_like}
use Rattle.law_base.proofs.Rows.{rows_up, place_in}
use Rattle.quantum_render.proofs.SiteLaws.{site_slot}

-- a widened block has its lanes, and is silent past them
pub widened : (x : List ℤ) (heard : BlockView) (lanes c k : ℕ) → IsWidened heard lanes x → heard.lanes ≤ lanes → k < heard.frames → item x (c * heard.frames + k) ≡ shown heard k c
widened x heard lanes c k is within now = elim (cases_lt c lanes) [
  | inl low ↦ is.values c k low now
  | inr past ↦ get_or_past x (c * heard.frames + k) (pos 0) (let all = is.length in let rows = rows_up heard.frames lanes c past in omega (arith, all, rows)) ∙ sym (nothing past)
]
  where
    nothing : lanes ≤ c → shown heard k c ≡ pos 0
    nothing past = ap (λ b. if b then at heard c k else pos 0) (let no : nat_lt c heard.lanes ≡ false = grind (arith, nat_tests) in no)

-- the front of what a block was written to
pub widened_front : (wide : List ℤ) (heard : BlockView) (lanes : ℕ) → lanes * heard.frames ≤ length wide → ((c m : ℕ) → c < lanes → m < heard.frames → sample heard.frames wide c m ≡ shown heard m c) → IsWidened heard lanes (take (lanes * heard.frames) wide)
widened_front wide heard lanes room each = record {
  length = length-take-le (lanes * heard.frames) wide room;
  values = λ c m low now. get_or-take (lanes * heard.frames) wide (c * heard.frames + m) (pos 0) (place_in heard.frames c lanes m low now) ∙ each c m low now;
}

module _ (s : SiteView) (site : IsSite s.world s.end s.into s.counts s.levels s.first) (equation : Equation) (kind : kind_of s.world s.end.node.0 ≡ Causal equation) where
  -- its end has the second of the node's two places
  own_slot : slot s.end ≡ 2 * s.end.node.0 + 1
  own_slot = ap slot (plain_reader (sounding s.world) (joined s.world site.quantum.valid) s.end site.there (ap is_delay_kind kind))

  pub own_place : 2 * s.end.node.0 + 1 < length s.counts
  own_place = subst (λ k. k < length s.counts) own_slot (site_slot s.world s.end s.into s.counts s.levels s.first site)

  pub own_count : counts_in s.counts s.end ≡ slice_index_or s.counts (2 * s.end.node.0 + 1) 1
  own_count = ap (λ k. slice_index_or s.counts k 1) own_slot

  -- as many lanes are heard as the node has room for
  pub lanes_are : (bank : BankView) → HaveRoom bank s.counts → (f : HeardView) → heard_at bank s.end.node.0 ≡ Some f → (room channels lanes : ℕ) → room ≡ causal_room f → channels ≡ counts_in s.counts s.end
      → lanes ≡ max room channels → lanes ≡ causal_room f
  lanes_are bank rooms f is room channels lanes held count most =
      let fits = rooms s.end.node.0 f is own_place in
      let few = fits.0 in
      let own = count ∙ own_count in
      grind arith

module _ (s : SiteView) (site : IsSite s.world s.end s.into s.counts s.levels s.first) (memory : Memory) (old : List BlockView) (equation : Equation) (kind : kind_of s.world s.end.node.0 ≡ Causal equation)
    (before : ℕ → Frame) (ready : IsReadyFor s memory old before) where
  abbrev bank : BankView
  bank = memory.causal

  abbrev n : ℕ
  n = s.end.node.0

  abbrev q : ℕ
  q = quantum_of s.world.spec

  -- what the node takes in, by the frames before and the blocks
  abbrev pub takes : ℕ → ℕ → ℤ
  takes g c = taken_in (past_of s old before g) n c

  past_now : (k : ℕ) → past_of s old before (s.first + k) ≡ here_of s old k
  past_now k =
      ap (λ b. if b then before (s.first + k) else here_of s old (s.first + k - s.first)) (let no : nat_lt (s.first + k) s.first ≡ false = grind (arith, nat_tests) in no)
      ∙ ap (here_of s old) (let e : s.first + k - s.first ≡ k = omega arith in e)

  past_before : (g : ℕ) → g < s.first → past_of s old before g ≡ before g
  past_before g low = ap (λ b. if b then before g else here_of s old (g - s.first)) (let yes : nat_lt g s.first ≡ true = grind (arith, nat_tests) in yes)

  unmuted : muted s.world.graph.value (input_end s.world.graph.value n) ≡ false
  unmuted = subst (λ e. muted s.world.graph.value e ≡ false) (plain_end (sounding s.world) (joined s.world site.quantum.valid) s.end site.there (ap is_delay_kind kind)) ready.unmuted

  pub takes_now : (k c : ℕ) → takes (s.first + k) c ≡ input_value (here_of s old k) n 0 c
  takes_now k c = ap (λ x. taken_in x n c) (past_now k) ∙ ap (λ b. if b then pos 0 else input_value (here_of s old k) n 0 c) unmuted

  -- the node has heard it so far
  pub has_heard : IsHeard (heard_at bank n) equation (node_at s.world n).attrs.birth s.first takes
  has_heard = heard_like _ equation _ s.first _ takes (λ g c low high. ap (λ x. taken_in x n c) (sym (past_before g high))) (ready.heard equation kind)

  -- the block that the node hears brings the quantum
  pub brings : (channels lanes : ℕ) (x : List ℤ) (heard : BlockView) → IsWidened heard lanes x → heard.lanes ≡ channels → channels ≤ lanes → channels ≡ input_channels (sounding s.world) (counts_in s.counts) n 0
      → heard.frames ≡ q → ((c m : ℕ) → c < channels → m < q → at heard c m ≡ input_value (here_of s old m) n 0 c)
      → Brings q s.first x takes
  unfolding input_value
  brings channels lanes x heard is count within counted frames input c k now =
      takes_now k c ∙ by_test (nat_lt c channels) refl
      ∙ sym (subst (λ n. item x (c * n + k) ≡ shown heard k c) frames (widened x heard lanes c k is (subst (λ m. m ≤ lanes) (sym count) within) (subst (λ n. k < n) (sym frames) now)))
    where
      by_test : (b : Bool) → nat_lt c channels ≡ b → input_value (here_of s old k) n 0 c ≡ shown heard k c
      by_test true t =
          sym (input c k (let low : c < channels = grind (arith, nat_tests) in low) now)
          ∙ ap (λ b. if b then at heard c k else pos 0) (sym (ap (nat_lt c) count ∙ t))
      by_test false t =
          ap (λ b. if b then mixed_sum (here_of s old k) (node_at s.world n).attrs.interp (input_channels (sounding s.world) (counts_in s.counts) n 0) c (edges_to_input s.world.graph.value n 0) else pos 0) (ap (nat_lt c) (sym counted) ∙ t)
          ∙ ap (λ b. if b then at heard c k else pos 0) (sym (ap (nat_lt c) count ∙ t))

  -- all that the node takes in up to a frame of the quantum
  pub all_taken : (m c : ℕ) → since (λ g. takes g c) (node_at s.world n).attrs.birth (s.first + m + 1 - (node_at s.world n).attrs.birth) ≡ frames_heard (s.first + m) (past_of s old before) (here_of s old m) n c
  all_taken m c = same_since _ _ (node_at s.world n).attrs.birth (s.first + m + 1 - (node_at s.world n).attrs.birth) (λ g low high. ap (λ x. taken_in x n c) (by_test g (g == s.first + m) refl))
    where
      by_test : (g : ℕ) (b : Bool) → (g == s.first + m) ≡ b → past_of s old before g ≡ (if b then here_of s old m else past_of s old before g)
      by_test g true t = let here : g ≡ s.first + m = grind (arith, nat_tests) in ap (past_of s old before) here ∙ past_now m
      by_test g false t = refl

  module _ (x y : List ℤ) (bank' : BankView) (hears : Hears bank bank' n x y) (same : bank.quantum ≡ q) (bring : Brings q s.first x takes) (early : s.first ≤ 2 ^ 62) where
    abbrev f : HeardView
    f = has_heard.causal

    bring' : Brings bank.quantum f.time x takes
    bring' = subst (λ k. Brings k f.time x takes) (sym same) (subst (λ t. Brings q t x takes) (sym has_heard.time) bring)

    -- what it puts out
    pub puts_out : (c m : ℕ) → c < causal_room f → m < q → item y (c * q + m) ≡ equation_value equation (frames_heard (s.first + m) (past_of s old before) (here_of s old m) n c)
    puts_out c m low now =
        ap (λ k. item y (c * k + m)) (sym same)
        ∙ hears.values f has_heard.there takes has_heard.heard bring' c m low (subst (λ k. m < k) (sym same) now)
        ∙ has_heard.outputs _
        ∙ ap (equation_value equation)
        (ap (λ b. since (λ g. takes g c) b (f.time + m + 1 - b)) has_heard.birth
        ∙ ap (λ t. since (λ g. takes g c) (node_at s.world n).attrs.birth (t + m + 1 - (node_at s.world n).attrs.birth)) has_heard.time
        ∙ all_taken m c)

    -- and it has heard the quantum
    pub hears_on : IsHeard (heard_at bank' n) equation (node_at s.world n).attrs.birth (s.first + q) takes
    hears_on =
        let next = hears.heard f has_heard.there (subst (λ t. t ≤ 2 ^ 62) (sym has_heard.time) early) takes has_heard.heard bring' in
        record {
          causal = next.causal;
          there = next.there;
          outputs = λ frames. next.outputs frames ∙ has_heard.outputs frames;
          birth = next.birth ∙ has_heard.birth;
          time = next.time ∙ ap (λ t. t + bank.quantum) has_heard.time ∙ ap (λ k. s.first + k) same;
          heard = next.heard;
        }
