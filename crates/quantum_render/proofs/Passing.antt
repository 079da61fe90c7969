-- Rendering a quantum along a legal order.
use Rattle.std.proofs.Common.{ℕ, suc, ◌≡◌, ◌+◌, ◌*◌, ◌<◌, ◌≤◌, length, List, [], ◌∷◌, ◌++◌, drop, slice_index_or, false, Option, None, Some, inl, inr, refl, sym, ◌∙◌, ap, arith, subst}
use Rattle.std.specs.Prelude.{if◌then◌else◌}
use Rattle.std.proofs.Math.ListN.{drop_of_length-le}
use Rattle.std.proofs.lemmas.List.{length-map}
use Rattle.wa_base.specs.Contexts.{quantum_of}
use Rattle.wa_base.specs.declared.graph_names.End.{End}
use Rattle.law_base.specs.Members.{IsIn}
use Rattle.node_table.specs.declared.equation.Equation.{Equation}
use Rattle.node_table.specs.Kinds.{outputs, is_delay_kind}
use Rattle.node_table.specs.declared.kinds.Kind.TheVariants.{Causal}
use Rattle.conn_graph.specs.declared.edges.Edge.{Edge}
use Rattle.conn_graph.specs.Ends.{ends, muted}
use Rattle.conn_graph.specs.Orders.{IsLegalAfter}
use Rattle.meaning.specs.declared.world.World.{World}
use Rattle.meaning.specs.World.{sounding, node_at, kind_of}
use Rattle.meaning.specs.Validity.{IsValid, IsJoined}
use Rattle.meaning.specs.Counts.{count_rule, count_by_kind, counts_before}
use Rattle.meaning.specs.Values.{taken_in, frame, value_by_kind, value}
use Rattle.meaning.specs.Blocks.{with_drafts}
use Rattle.conn_graph.proofs.EndLaws.{has_end}
use Rattle.meaning.proofs.Joined.{joined}
use Rattle.meaning.proofs.Seeing.{plain_end}
use Rattle.meaning.proofs.OrderLaws.{all_known}
use Rattle.meaning.proofs.QuantumLaws.{AreRight, count_right, muted_right}
use Rattle.quantum_blocks.specs.Blocks.{BlockView, at, slot, block_of, lanes_of, frames_of, counts_in, drafts_of, frame_of, IsSilent, Writes}
use Rattle.quantum_blocks.specs.Fits.{AreFit}
use Rattle.quantum_render.specs.Plans.{IsPlan, AreCounted}
use Rattle.automation.specs.Levels.{LevelView}
use Rattle.quantum_render.specs.Sites.{SiteView}
use Rattle.filter_bank.specs.Heard.{HeardView, room_of, IsHeard}
use Rattle.filter_bank.specs.Banks.{BankView as CausalBank, heard_at, IsRestedIfThere, HaveRoom}
use Rattle.delay_bank.specs.Kept.{DelayView, IsKept}
use Rattle.delay_bank.specs.Banks.{delay_at}
use Rattle.quantum_render.specs.declared.memory.Memory.{Memory}
use Rattle.quantum_render.specs.Renders.{RendersWith, Listens, Stores, IsRendered, IsReadyFor, HasCount, past_of}
use Rattle.quantum_render.specs.Listening.{writer_in, IsTimely, IsMemory, HasRooms}
use Rattle.quantum_render.proofs.Fed.{AreKeptBy, is_fed, kept_more, all_kept}
use Rattle.quantum_render.proofs.Listening.{heard_like, AreHeardBy, heard_until, takes_in, not_done, now_done, other_done, rested_heard}
use Rattle.law_base.proofs.Places.{this_or_other}
use Rattle.quantum_blocks.proofs.Slots.{slot_low}
use Rattle.quantum_blocks.proofs.Sources.{IsIn-get_or, end_low, same_nodes}
use Rattle.quantum_blocks.proofs.Connections.{lanes_kept, frames_kept}
use Rattle.quantum_blocks.proofs.PassLaws.{one_more_right}
use Rattle.quantum_blocks.proofs.Orders.{no_end, next_in_order}
use Rattle.quantum_render.proofs.Idling.{silent_drafts}
use Rattle.quantum_render.proofs.Ports.{some_frames}

-- where lanes and frames stay, blocks still fit
pub still_fit : (w : World) (counts : List ℕ) (old new : List BlockView) → lanes_of new ≡ lanes_of old → frames_of new ≡ frames_of old → AreFit w counts old → AreFit w counts new
still_fit w counts old new lanes frames fit = record {
  places = sym (length-map new (λ (b : BlockView). b.lanes)) ∙ ap length lanes ∙ length-map old (λ (b : BlockView). b.lanes) ∙ fit.places;
  lanes = λ e is. lanes_kept old new lanes e ∙ fit.lanes e is;
  frames = λ e is. frames_kept old new frames e ∙ fit.frames e is;
}

-- the channels of an unmuted end are those that its kind asks for
has_count : (w : World) → 0 < quantum_of w.spec → IsJoined (sounding w) → (counts : List ℕ) (tape : List World) → AreCounted (quantum_of w.spec) w counts tape → (x : End) → IsIn x (ends w.graph.value) → muted w.graph.value x ≡ false
    → counts_in counts x ≡ count_by_kind (quantum_of w.spec) (sounding w) (length tape) (counts_before (quantum_of w.spec) (tape ++ w ∷ []) (length tape)) (counts_in counts) (kind_of w x.node.0) x
unfolding count_rule
has_count w some joined counts tape counted x in_x unmuted =
    counted x in_x
    ∙ sym (count_right (quantum_of w.spec) some w joined tape (counts_before (quantum_of w.spec) (tape ++ w ∷ []) (length tape)) (λ n k delay low high. refl) (counts_in counts) x in_x (λ d in_d a. counted d in_d))
    ∙ ap (λ b. if b then 1 else count_by_kind (quantum_of w.spec) (sounding w) (length tape) (counts_before (quantum_of w.spec) (tape ++ w ∷ []) (length tape)) (counts_in counts) (kind_of w x.node.0) x) unmuted

-- what holds of each tape whose quanta are remembered before the quantum begins
abbrev pub OfTapes : World → List ℕ → ℕ → Memory → (List World → Type 0) → Type 0
OfTapes w counts first old P = (tape : List World) → first ≡ quantum_of w.spec * length tape → AreCounted (quantum_of w.spec) w counts tape → IsTimely w → IsMemory old w tape first → P tape

-- after so many ends of an order the known ends have their values, and their causal nodes and delays have heard and kept the quantum
pub record Passing (w : World) (order : List End) (i : ℕ) (counts : List ℕ) (first : ℕ) (old memory : Memory) (blocks : List BlockView) : Type 0 where
  pub done : List End
  pub legal : IsLegalAfter w.graph.value done (drop i order)
  pub fit : AreFit w counts blocks
  pub rooms : HasRooms memory w counts
  pub causal : length memory.causal.nodes ≡ length old.causal.nodes
  pub delays : length memory.delays.delays ≡ length old.delays.delays
  pub right : OfTapes w counts first old (λ tape. AreRight (quantum_of w.spec) (tape ++ w ∷ []) (length tape) w (drafts_of blocks counts) done)
  pub heard : OfTapes w counts first old (λ tape. AreHeardBy memory.causal w tape first done)
  pub kept : OfTapes w counts first old (λ tape. AreKeptBy memory.delays w tape first done)

pub passing_begins : (w : World) → 0 < quantum_of w.spec → IsJoined (sounding w) → (order mute : List End) (sources : List (List Edge)) → IsPlan w order mute sources → (counts : List ℕ) (first : ℕ) (memory : Memory) → HasRooms memory w counts → (blocks : List BlockView)
    → AreFit w counts blocks → ((i : ℕ) (d : End) → i < length mute → IsSilent blocks (slice_index_or mute i d)) → Passing w order 0 counts first memory memory blocks
passing_begins w some joined order mute sources plan counts first memory rooms blocks fit silent = record {
  done = [];
  legal = plan.legal;
  fit = fit;
  rooms = rooms;
  causal = refl;
  delays = refl;
  right = λ tape begins counted timely ready m l d in_d known. elim known [
    | inr none ↦ absurd none
    | inl k ↦ silent_drafts w counts blocks fit d in_d (at_place d mute (plan.all d in_d k) silent) m l ∙ muted_right (quantum_of w.spec) some w joined tape m l d in_d (inl k)
  ];
  heard = λ tape begins counted timely ready. ready.heard;
  kept = λ tape begins counted timely ready n longest time capacity low is.
      subst (λ q. IsKept q (delay_at memory.delays n) capacity (node_at w n).attrs.birth first (writer_in (quantum_of w.spec) (frame (quantum_of w.spec) (tape ++ w ∷ [])) n)) rooms.delay_quantum (ready.kept n longest time capacity low is);
}
  where
    at_place : (d : End) (xs : List End) → IsIn d xs → ((i : ℕ) (e : End) → i < length xs → IsSilent blocks (slice_index_or xs i e)) → IsSilent blocks d
    at_place d [] h each = absurd h
    at_place d (x ∷ xs) (inl is) each = subst (IsSilent blocks) (sym is) (each 0 no_end (omega arith))
    at_place d (x ∷ xs) (inr h) each = at_place d xs h (λ i e low. each (suc i) e (omega arith))

module _ (w : World) (valid : IsValid w) (order : List End) (i : ℕ) (counts : List ℕ) (first : ℕ) (old memory : Memory) (blocks : List BlockView)
    (c : Passing w order i counts first old memory blocks) (l : i < length order) where
  abbrev q : ℕ
  q = quantum_of w.spec

  some : 0 < q
  some = some_frames w valid

  abbrev x : End
  x = slice_index_or order i no_end

  pub next : IsLegalAfter w.graph.value c.done (x ∷ drop (i + 1) order)
  next = next_in_order w order c.done i c.legal l

  abbrev pub site_of : List Edge → List LevelView → SiteView
  site_of edges levels = record { world = w; end = x; into = edges; counts = counts; levels = levels; first = first }

  there : x.node.0 < length w.nodes
  there = end_low w valid x next.0

  module _ (edges : List Edge) (levels : List LevelView) (blocks' : List BlockView) (memory' : Memory) (writes : Writes blocks blocks' x)
      (renders : RendersWith (site_of edges levels) memory blocks (block_of blocks' x) (kind_of w x.node.0)) (listens : Listens (site_of edges levels) blocks memory memory') (stores : Stores (site_of edges levels) (block_of blocks' x) memory.delays memory'.delays) (rooms : HasRooms memory' w counts) where
    module _ (tape : List World) (begins : first ≡ q * length tape) (counted : AreCounted q w counts tape) (timely : IsTimely w) (ready : IsMemory old w tape first) where
      abbrev longer : List World
      longer = tape ++ w ∷ []

      no_delay : (equation : Equation) → kind_of w x.node.0 ≡ Causal equation → is_delay_kind (kind_of w x.node.0) ≡ false
      no_delay equation is = ap is_delay_kind is

      -- the end that is rendered next is ready
      ready_now : IsReadyFor (site_of edges levels) memory blocks (frame q longer)
      ready_now = record {
        unmuted = next.1;
        heard = λ equation is.
            subst (λ b. IsHeard (heard_at memory.causal x.node.0) equation (node_at w x.node.0).attrs.birth (if b then first + q else first) (λ g k. taken_in (frame q longer g) x.node.0 k))
            (not_done w some (joined w valid) tape blocks counts counted c.done (c.right tape begins counted timely ready) x next.0 next.3 (plain_end (sounding w) (joined w valid) x next.0 (no_delay equation is)) (no_delay equation is) next.2)
            (c.heard tape begins counted timely ready x.node.0 equation there is);
        fed = λ longest time capacity is. is_fed w valid tape first begins counts counted timely blocks c.done (c.right tape begins counted timely ready) memory.delays (c.kept tape begins counted timely ready)
            x next.0 next.1 next.2 next.3 edges levels longest time capacity is;
      }

      right_now : AreRight q longer (length tape) w (drafts_of blocks' counts) (x ∷ c.done)
      right_now =
          let fit' = still_fit w counts blocks blocks' writes.lanes writes.frames c.fit in
          one_more_right q some w (joined w valid) tape blocks blocks' counts counted c.done (c.right tape begins counted timely ready) x next.0 next.1 next.3 (fit'.lanes x next.0) writes
          (subst (λ f. (o k m : ℕ) → o < outputs (kind_of w x.node.0) → k < counts_in counts x → m < q → at (block_of blocks' x) (o * counts_in counts x + k) m
          ≡ value_by_kind q (f + m) (with_drafts (frame q longer) f (sounding w) (counts_in counts) (drafts_of blocks counts)) (frame_of (sounding w) blocks counts m) (kind_of w x.node.0) x o k) begins
          (renders.values (length tape) (counts_before q (tape ++ w ∷ []) (length tape)) begins (has_count w some (joined w valid) counts tape counted x next.0 next.1) (frame q longer) ready_now))

      -- its node has heard the quantum
      own_heard : (equation : Equation) → kind_of w x.node.0 ≡ Causal equation
          → IsHeard (heard_at memory'.causal x.node.0) equation (node_at w x.node.0).attrs.birth (first + q) (λ g k. taken_in (frame q longer g) x.node.0 k)
      own_heard equation is =
          heard_like _ equation _ (first + q) (λ g k. taken_in (past_of (site_of edges levels) blocks (frame q longer) g) x.node.0 k) _
          (λ g k low high. subst (λ f. g < f + q → taken_in (with_drafts (frame q longer) f (sounding w) (counts_in counts) (drafts_of blocks counts) g) x.node.0 k ≡ taken_in (frame q longer g) x.node.0 k) (sym begins)
          (λ high. takes_in w some (joined w valid) tape blocks counts counted c.done (c.right tape begins counted timely ready) x next.0 next.3 (plain_end (sounding w) (joined w valid) x next.0 (no_delay equation is)) g k high) high)
          (listens.own equation is (length tape) (counts_before q (tape ++ w ∷ []) (length tape)) begins (subst (λ kind. HasCount (site_of edges levels) (length tape) (counts_before q (tape ++ w ∷ []) (length tape)) kind) is (has_count w some (joined w valid) counts tape counted x next.0 next.1)) (frame q longer) ready_now)

      heard_now : AreHeardBy memory'.causal w tape first (x ∷ c.done)
      heard_now n equation low is = elim (this_or_other n x.node.0) [
        | inl here ↦
            let own : kind_of w x.node.0 ≡ Causal equation = subst (λ k. kind_of w k ≡ Causal equation) here is in
            subst (λ k. IsHeard (heard_at memory'.causal k) equation (node_at w k).attrs.birth (heard_until q (x ∷ c.done) first k) (λ g r. taken_in (frame q longer g) k r)) (sym here)
            (subst (λ b. IsHeard (heard_at memory'.causal x.node.0) equation (node_at w x.node.0).attrs.birth (if b then first + q else first) (λ g r. taken_in (frame q longer g) x.node.0 r))
            (sym (now_done w some (joined w valid) tape blocks counts counted c.done (c.right tape begins counted timely ready) x next.0 next.3 (plain_end (sounding w) (joined w valid) x next.0 (no_delay equation own)) (no_delay equation own) next.2))
            (own_heard equation own))
        | inr apart ↦
            subst (λ b. IsHeard (heard_at memory'.causal n) equation (node_at w n).attrs.birth (if b then first + q else first) (λ g r. taken_in (frame q longer g) n r)) (sym (other_done x c.done n apart))
            (subst (λ o. IsHeard o equation (node_at w n).attrs.birth (heard_until q c.done first n) (λ g r. taken_in (frame q longer g) n r)) (sym (listens.others n apart)) (c.heard tape begins counted timely ready n equation low is))
      ]

    pub passing_goes_on : Passing w order (i + 1) counts first old memory' blocks'
    passing_goes_on = record {
      done = x ∷ c.done;
      legal = next.4;
      fit = still_fit w counts blocks blocks' writes.lanes writes.frames c.fit;
      rooms = rooms;
      causal = listens.count ∙ c.causal;
      delays = stores.count ∙ c.delays;
      right = right_now;
      heard = heard_now;
      kept = λ tape begins counted timely ready.
          let fit' = still_fit w counts blocks blocks' writes.lanes writes.frames c.fit in
          kept_more w valid tape first begins counts counted timely blocks' c.done memory.delays memory'.delays (c.kept tape begins counted timely ready) x next.0 next.2 (right_now tape begins counted timely ready) (fit'.lanes x next.0) edges levels stores;
    }

-- an end was rendered
pub passing_rendered : (w : World) (valid : IsValid w) (order : List End) (i : ℕ) (counts : List ℕ) (first : ℕ) (old memory memory' : Memory) (blocks blocks' : List BlockView) → Passing w order i counts first old memory blocks → i < length order
    → (edges : List Edge) (levels : List LevelView) → IsRendered (record { world = w; end = slice_index_or order i no_end; into = edges; counts = counts; levels = levels; first = first }) blocks blocks' memory memory'
    → Passing w order (i + 1) counts first old memory' blocks'
passing_rendered w valid order i counts first old memory memory' blocks blocks' c l edges levels is =
    passing_goes_on w valid order i counts first old memory blocks c l edges levels blocks' memory' is.draws.writes is.draws.renders is.listens is.stores is.rooms

module _ (w : World) (valid : IsValid w) (order : List End) (i : ℕ) (counts : List ℕ) (first : ℕ) (old memory : Memory) (blocks : List BlockView) (c : Passing w order i counts first old memory blocks) (past : length order ≤ i)
    (tape : List World) (begins : first ≡ quantum_of w.spec * length tape) (counted : AreCounted (quantum_of w.spec) w counts tape) (timely : IsTimely w) (ready : IsMemory old w tape first) where
  legal_end : IsLegalAfter w.graph.value c.done []
  legal_end = subst (IsLegalAfter w.graph.value c.done) (drop_of_length-le order past) c.legal

  pub passing_ends : (m : ℕ) (d : End) → m < quantum_of w.spec → IsIn d (ends w.graph.value) → drafts_of blocks counts m d ≡ value (quantum_of w.spec) (tape ++ w ∷ []) (quantum_of w.spec * length tape + m) d
  passing_ends m d now in_d = c.right tape begins counted timely ready m now d in_d (all_known w.graph.value c.done legal_end d in_d)

  -- once those that are muted have rested, all causal nodes have heard the quantum, and all delays keep it
  pub all_remembered : (memory' : Memory) → ((n : ℕ) → IsRestedIfThere (quantum_of w.spec) first (heard_at memory.causal n) (heard_at memory'.causal n)) → memory'.delays.delays ≡ memory.delays.delays → memory'.delays.quantum ≡ memory.delays.quantum → IsMemory memory' w tape (first + quantum_of w.spec)
  all_remembered memory' rested same quantum = record {
    heard = λ n equation low is.
        rested_heard w (some_frames w valid) (joined w valid) tape first begins c.done legal_end n (has_end w.graph.value n (subst (λ k. n < k) (sym (same_nodes w valid)) low)) equation (ap is_delay_kind is) (node_at w n).attrs.birth (heard_at memory.causal n) (heard_at memory'.causal n)
        (c.heard tape begins counted timely ready n equation low is) (rested n);
    kept = λ n longest time capacity low is.
        subst (λ k. IsKept k (delay_at memory'.delays n) capacity (node_at w n).attrs.birth (first + quantum_of w.spec) (writer_in (quantum_of w.spec) (frame (quantum_of w.spec) (tape ++ w ∷ [])) n)) (sym quantum)
        (subst (λ (ds : List (Option DelayView)). IsKept memory.delays.quantum (slice_index_or ds n None) capacity (node_at w n).attrs.birth (first + quantum_of w.spec) (writer_in (quantum_of w.spec) (frame (quantum_of w.spec) (tape ++ w ∷ [])) n)) (sym same)
        (all_kept w valid tape first begins counts counted timely c.done legal_end memory.delays c.rooms.delay_quantum (c.kept tape begins counted timely ready) n longest time capacity low is));
  }

-- there is as much room once the causal nodes have rested
pub rested_rooms : (q first : ℕ) (old new : CausalBank) → ((n : ℕ) → IsRestedIfThere q first (heard_at old n) (heard_at new n)) → (counts : List ℕ) → HaveRoom old counts → HaveRoom new counts
rested_rooms q first old new rested counts rooms n g there low = by_old (heard_at old n) refl (subst (IsRestedIfThere q first (heard_at old n)) there (rested n))
  where
    by_old : (o : Option HeardView) → heard_at old n ≡ o → IsRestedIfThere q first o (Some g) → (slice_index_or counts (2 * n + 1) 1 ≤ room_of g) × (room_of g ≤ 32)
    by_old None is none = absurd none
    by_old (Some f) is stays = subst (λ k. (slice_index_or counts (2 * n + 1) 1 ≤ k) × (k ≤ 32)) (sym stays.room) (rooms n f is low)

-- the muted ends of a plan have their places
pub mute_there : (w : World) → IsValid w → (order mute : List End) (sources : List (List Edge)) → IsPlan w order mute sources → (counts : List ℕ) (blocks : List BlockView) → AreFit w counts blocks
    → (i : ℕ) (d : End) → i < length mute → slot (slice_index_or mute i d) < length blocks
mute_there w valid order mute sources plan counts blocks fit i d l =
    let e : End = slice_index_or mute i d in
    subst (λ k. slot e < k) (sym fit.places) (slot_low e (length w.nodes) (end_low w valid e (plan.only e (IsIn-get_or mute i d l)).0))
