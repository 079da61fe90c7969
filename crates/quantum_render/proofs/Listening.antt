-- What causal nodes have heard, and of whom.
use Rattle.std.proofs.Common.{ℕ, ℤ, ◌≡◌, ◌+◌, ◌-◌, ◌*◌, ◌<◌, ◌≤◌, length, List, [], ◌∷◌, ◌++◌, Bool, true, false, ◌||◌, Option, Some, None, inl, inr, refl, sym, ◌∙◌, ap, arith, subst}
use Rattle.std.specs.Prelude.{if◌then◌else◌, nat_lt}
use Rattle.std.proofs.lemmas.Bool.Decides.{nat_tests}
use Rattle.wa_base.specs.Contexts.{quantum_of}
use Rattle.wa_base.specs.declared.graph_names.End.{End}
use Rattle.law_base.specs.Members.{IsIn}
use Rattle.filter_bank.specs.States.{stands}
use Rattle.node_table.specs.declared.equation.Equation.{Equation}
use Rattle.node_table.specs.Equations.{equation_value}
use Rattle.node_table.specs.Kinds.{is_delay_kind}
use Rattle.node_table.specs.declared.kinds.Kind.{Kind}
use Rattle.node_table.specs.declared.kinds.Kind.TheVariants.{Causal}
use Rattle.conn_graph.specs.Ends.{same_end, reader_of, input_end, ends, muted}
use Rattle.conn_graph.specs.Orders.{IsLegalAfter}
use Rattle.conn_graph.proofs.EndLaws.{same_end-refl, same_end_is}
use Rattle.meaning.specs.declared.world.World.{World}
use Rattle.meaning.specs.World.{sounding, node_at, kind_of}
use Rattle.meaning.specs.Validity.{IsJoined}
use Rattle.meaning.specs.Values.{taken_in, frame}
use Rattle.meaning.specs.Blocks.{drafted, with_drafts}
use Rattle.meaning.proofs.QuantumLaws.{AreRight, HasCounts, HasSources, taken_right, taken_muted}
use Rattle.meaning.proofs.Seeing.{plain_end, plain_reader, same_since}
use Rattle.filter_bank.specs.Heard.{HeardView, IsHeard, IsRested}
use Rattle.filter_bank.specs.Banks.{BankView, heard_at, IsRestedIfThere}
use Rattle.quantum_blocks.specs.Blocks.{BlockView, counts_in, drafts_of}
use Rattle.quantum_render.specs.Sites.{SiteView}
use Rattle.quantum_render.specs.declared.memory.Memory.{Memory}
use Rattle.quantum_render.specs.Renders.{Renders, RendersWith}

-- a causal node has heard whatever agrees with what it has heard
pub heard_like : (found : Option HeardView) (equation : Equation) (birth now : ℕ) (at at' : ℕ → ℕ → ℤ) → ((g c : ℕ) → birth ≤ g → g < now → at g c ≡ at' g c)
    → IsHeard found equation birth now at → IsHeard found equation birth now at'
heard_like found equation birth now at at' same is = record {
  causal = is.causal;
  there = is.there;
  outputs = is.outputs;
  birth = is.birth;
  time = is.time;
  heard = λ c. subst (stands is.causal.state c) (same_since (λ g. at g c) (λ g. at' g c) is.causal.birth (is.causal.time - is.causal.birth) (λ g low high. same g c (subst (λ b. b ≤ g) is.birth low) (within g low high))) (is.heard c);
}
  where
    within : (g : ℕ) → is.causal.birth ≤ g → g < is.causal.birth + (is.causal.time - is.causal.birth) → g < now
    within g low high = let t = is.time in omega arith

-- and has heard it by an equation with the same outputs
heard_as : (found : Option HeardView) (equation equation' : Equation) (birth birth' now : ℕ) (at : ℕ → ℕ → ℤ) → ((frames : List ℤ) → equation_value equation frames ≡ equation_value equation' frames) → birth ≡ birth'
    → IsHeard found equation birth now at → IsHeard found equation' birth' now at
heard_as found equation equation' birth birth' now at outputs born is = record {
  causal = is.causal;
  there = is.there;
  outputs = λ frames. is.outputs frames ∙ outputs frames;
  birth = is.birth ∙ born;
  time = is.time;
  heard = is.heard;
}

-- whether an end is among those that are done
abbrev pub is_among : List End → End → Bool
is_among [] e = false
is_among (x ∷ xs) e = same_end e x || is_among xs e

pub among_in : (done : List End) (e : End) → is_among done e ≡ true → IsIn e done
among_in [] e is = absurd cc
among_in (x ∷ xs) e is = by_test (same_end e x) refl is (λ later. among_in xs e later)
  where
    by_test : (b : Bool) → same_end e x ≡ b → (b || is_among xs e) ≡ true → (is_among xs e ≡ true → IsIn e xs) → IsIn e (x ∷ xs)
    by_test true here is below = inl (same_end_is e x here)
    by_test false other is below = inr (below is)

pub in_among : (done : List End) (e : End) → IsIn e done → is_among done e ≡ true
in_among [] e is = absurd is
in_among (x ∷ xs) e (inl is) = let here : same_end e x ≡ true = subst (λ y. same_end e y ≡ true) is (same_end-refl e) in ap (λ b. b || is_among xs e) here
in_among (x ∷ xs) e (inr is) = by_test (same_end e x) (in_among xs e is)
  where
    by_test : (b : Bool) → is_among xs e ≡ true → (b || is_among xs e) ≡ true
    by_test true is = refl
    by_test false is = is

-- an end that is new is none of them, and then it is one
pub not_among : (done : List End) (x : End) → (IsIn x done → ⊥) → is_among done x ≡ false
not_among done x new = by_test (is_among done x) refl
  where
    by_test : (b : Bool) → is_among done x ≡ b → is_among done x ≡ false
    by_test true is = absurd (new (among_in done x is))
    by_test false is = is

pub now_among : (done : List End) (x : End) → is_among (x ∷ done) x ≡ true
now_among done x = ap (λ b. b || is_among done x) (same_end-refl x)

pub other_among : (done : List End) (x e : End) → (e ≡ x → ⊥) → is_among (x ∷ done) e ≡ is_among done e
other_among done x e apart = by_test (same_end e x) refl
  where
    by_test : (b : Bool) → same_end e x ≡ b → (b || is_among done e) ≡ is_among done e
    by_test true t = absurd (apart (same_end_is e x t))
    by_test false t = refl

abbrev pub is_done : List End → ℕ → Bool
is_done done n = is_among done (reader_of n)

-- up to which frame a causal node has heard its input, by the ends that are done in a quantum of q frames
abbrev pub heard_until : ℕ → List End → ℕ → ℕ → ℕ
heard_until q done first n = if is_done done n then first + q else first

-- each causal node of a world has heard its input, as far as the ends are done
abbrev pub AreHeardBy : BankView → World → List World → ℕ → List End → Type 0
AreHeardBy bank w tape first done = (n : ℕ) (equation : Equation) → n < length w.nodes → kind_of w n ≡ Causal equation
    → IsHeard (heard_at bank n) equation (node_at w n).attrs.birth (heard_until (quantum_of w.spec) done first n) (λ g c. taken_in (frame (quantum_of w.spec) (tape ++ w ∷ []) g) n c)

-- what a kind that remembers nothing renders, it renders whatever is remembered
pub with_memory : (s : SiteView) (memory : Memory) (blocks : List BlockView) (block : BlockView) (kind : Kind) → Renders s blocks block kind → RendersWith s memory blocks block kind
with_memory s memory blocks block kind renders = record {
  lanes = renders.lanes;
  frames = renders.frames;
  values = λ j earlier begins counted before ready. renders.values j earlier begins counted before;
}

-- ---- one more end of an order

module _ (w : World) (some : 0 < quantum_of w.spec) (joined : IsJoined (sounding w)) (tape : List World) (blocks : List BlockView) (counts : List ℕ)
    (counted : HasCounts (quantum_of w.spec) (tape ++ w ∷ []) (length tape) w (counts_in counts)) (done : List End) (right : AreRight (quantum_of w.spec) (tape ++ w ∷ []) (length tape) w (drafts_of blocks counts) done)
    (x : End) (in_x : IsIn x (ends w.graph.value)) (sources : HasSources w done x) (plain_x : x ≡ input_end w.graph.value x.node.0) where
  abbrev q : ℕ
  q = quantum_of w.spec

  abbrev longer : List World
  longer = tape ++ w ∷ []

  abbrev first : ℕ
  first = q * length tape

  -- what its node takes in, by the blocks and by the tape
  pub takes_in : (g c : ℕ) → g < first + q → taken_in (with_drafts (frame q longer) first (sounding w) (counts_in counts) (drafts_of blocks counts) g) x.node.0 c ≡ taken_in (frame q longer g) x.node.0 c
  takes_in g c low = by_test (nat_lt g first) refl
    where
      by_test : (b : Bool) → nat_lt g first ≡ b → taken_in (if b then frame q longer g else drafted (sounding w) (counts_in counts) (drafts_of blocks counts (g - first))) x.node.0 c ≡ taken_in (frame q longer g) x.node.0 c
      by_test true t = refl
      by_test false t =
          let high : first ≤ g = grind (arith, nat_tests) in
          let back : first + (g - first) ≡ g = omega arith in
          taken_right q some w joined tape (counts_in counts) counted (drafts_of blocks counts) done right x in_x plain_x sources (g - first) (omega arith) c
          ∙ ap (λ k. taken_in (frame q longer k) x.node.0 c) back

  -- of the ends that are done, x is none yet, and then it is one
  module _ (kind : is_delay_kind (kind_of w x.node.0) ≡ false) (new : IsIn x done → ⊥) where
    here : x ≡ reader_of x.node.0
    here = plain_reader (sounding w) joined x in_x kind

    pub not_done : is_done done x.node.0 ≡ false
    not_done = subst (λ e. is_among done e ≡ false) here (not_among done x new)

    pub now_done : is_done (x ∷ done) x.node.0 ≡ true
    now_done = subst (λ e. is_among (x ∷ done) e ≡ true) here (now_among done x)

-- an end of another node is no reader of this one
pub other_done : (x : End) (done : List End) (n : ℕ) → (n ≡ x.node.0 → ⊥) → is_done (x ∷ done) n ≡ is_done done n
other_done x done n apart = other_among done x (reader_of n) (λ e. apart (ap (λ (d : End). d.node.0) e))

-- ---- after the last end

-- a causal node that is muted hears silence, and the others have heard the quantum
pub rested_heard : (w : World) → 0 < quantum_of w.spec → IsJoined (sounding w) → (tape : List World) (first : ℕ) → first ≡ quantum_of w.spec * length tape → (done : List End) → IsLegalAfter w.graph.value done [] → (n : ℕ) → IsIn (reader_of n) (ends w.graph.value)
    → (equation : Equation) → is_delay_kind (kind_of w n) ≡ false → (birth : ℕ) (old new : Option HeardView) → IsHeard old equation birth (heard_until (quantum_of w.spec) done first n) (λ g c. taken_in (frame (quantum_of w.spec) (tape ++ w ∷ []) g) n c)
    → IsRestedIfThere (quantum_of w.spec) first old new → IsHeard new equation birth (first + quantum_of w.spec) (λ g c. taken_in (frame (quantum_of w.spec) (tape ++ w ∷ []) g) n c)
rested_heard w some joined tape first begins done legal n in_n equation no_delay birth old new is rested = by_test (is_done done n) refl is
  where
    -- an end that is not done is muted
    quiet : is_done done n ≡ false → muted w.graph.value (input_end w.graph.value n) ≡ true
    quiet t = subst (λ e. muted w.graph.value e ≡ true) (plain_end (sounding w) joined (reader_of n) in_n no_delay) (by_mute (muted w.graph.value (reader_of n)) refl)
      where
        by_mute : (b : Bool) → muted w.graph.value (reader_of n) ≡ b → muted w.graph.value (reader_of n) ≡ true
        by_mute true m = m
        by_mute false m = let yes : is_done done n ≡ true = in_among done (reader_of n) (legal (reader_of n) in_n m) in absurd (let no = sym t ∙ yes in cc)

    -- a causal node that was there has rested
    there : (f : HeardView) (old new : Option HeardView) → old ≡ Some f → IsRestedIfThere (quantum_of w.spec) first old new → (g : HeardView) × (new ≡ Some g) × IsRested (quantum_of w.spec) first f g
    there f None new at rested = absurd (let e = at in cc)
    there f (Some x) None at rested = absurd rested
    there f (Some x) (Some g) at rested = (g, refl, subst (λ y. IsRested (quantum_of w.spec) first y g) (let e : x ≡ f = cc in e) rested)

    by_test : (b : Bool) → is_done done n ≡ b → IsHeard old equation birth (if b then first + quantum_of w.spec else first) (λ g c. taken_in (frame (quantum_of w.spec) (tape ++ w ∷ []) g) n c)
        → IsHeard new equation birth (first + quantum_of w.spec) (λ g c. taken_in (frame (quantum_of w.spec) (tape ++ w ∷ []) g) n c)
    by_test true t is =
        let after = there is.causal old new is.there rested in
        let kept : after.0 ≡ is.causal = after.2.kept (λ e. let time = is.time in absurd (omega (arith, some, e, time))) in
        subst (λ o. IsHeard o equation birth (first + quantum_of w.spec) (λ g c. taken_in (frame (quantum_of w.spec) (tape ++ w ∷ []) g) n c)) (is.there ∙ sym (after.1 ∙ ap (λ x. Some x) kept)) is
    by_test false t is =
        let after = there is.causal old new is.there rested in
        let made = after.2.heard is.time (λ g c. taken_in (frame (quantum_of w.spec) (tape ++ w ∷ []) g) n c) is.heard (λ c k now. ap (λ f. taken_in (frame (quantum_of w.spec) (tape ++ w ∷ []) (f + k)) n c) begins ∙ taken_muted (quantum_of w.spec) some w joined tape n (quiet t) k now c) in
        subst (λ o. IsHeard o equation birth (first + quantum_of w.spec) (λ g c. taken_in (frame (quantum_of w.spec) (tape ++ w ∷ []) g) n c)) (sym after.1) (heard_as _ _ equation _ birth _ _ is.outputs is.birth made)
