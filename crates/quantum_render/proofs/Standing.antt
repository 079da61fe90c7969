-- What a renderer that stands for a tape remembers, in a world of its context.
use Rattle.std.proofs.Common.{ℕ, ◌≡◌, ◌+◌, ◌*◌, ◌≤◌, max, length, length-append, List, [], ◌∷◌, ◌++◌, sym, ◌∙◌, ap, arith, subst}
use Rattle.wa_base.specs.Contexts.{quantum_of}
use Rattle.wa_base.specs.declared.contexts.ContextSpec.{ContextSpec}
use Rattle.law_base.proofs.Rows.{next_quantum}
use Rattle.meaning.specs.declared.world.World.{World}
use Rattle.meaning.specs.Validity.{IsValid}
use Rattle.meaning.specs.Worlds.{IsRegular}
use Rattle.meaning.specs.Pasts.{last_world, past}
use Rattle.filter_bank.specs.Banks.{AreHeard}
use Rattle.delay_bank.specs.Banks.{AreKept, AreNew}
use Rattle.quantum_render.specs.declared.memory.Memory.{Memory}
use Rattle.quantum_render.specs.Listening.{HasKept, IsMemory}
use Rattle.quantum_render.specs.Stands.{RendererView, past_writer, StandsFor, HasMemory}
use Rattle.quantum_render.proofs.Ports.{some_frames}
use Rattle.quantum_render.proofs.Kept.{remembered_delays, remember_delays}
use Rattle.quantum_render.proofs.Remembering.{remembered, remembers_on, last_few, last_now}

module _ (r : RendererView) (w : World) (valid : IsValid w) (spec : r.spec ≡ w.spec) (tape : List World) (stands : StandsFor r tape) (regular : IsRegular (quantum_of r.spec) (tape ++ w ∷ []))
    (first : ℕ) (is : first ≡ quantum_of r.spec * r.quanta) (quantum : r.memory.delays.quantum ≡ quantum_of r.spec) where
  abbrev q : ℕ
  q = quantum_of w.spec

  abbrev longer : List World
  longer = tape ++ w ∷ []

  size : quantum_of r.spec ≡ q
  size = ap (λ (s : ContextSpec). quantum_of s) spec

  pub regular_now : IsRegular q longer
  regular_now = subst (λ k. IsRegular k longer) size regular

  pub begins_now : first ≡ q * length tape
  begins_now = is ∙ ap (λ n. quantum_of r.spec * n) stands.quanta ∙ ap (λ k. k * length tape) size

  -- the delays keep what was written
  pub kept_now : AreNew r.memory.delays w → HasKept r.memory.delays w tape first
  kept_now fresh =
      remembered_delays w (some_frames w valid) tape regular_now r.memory.delays (quantum ∙ size) first begins_now stands.nodes.1
      (subst (λ k. AreKept r.memory.delays (last_world tape) first (past_writer (past k tape))) size
      (subst (λ t. AreKept r.memory.delays (last_world tape) t (past_writer (past (quantum_of r.spec) tape))) (sym is) stands.delays))
      fresh

  -- the memory is that of what came before
  pub memory_now : HasMemory r w → IsMemory r.memory w tape first
  memory_now has = record {
    heard = remembered w (some_frames w valid) tape regular_now r.memory.causal first begins_now stands.nodes.0
        (subst (λ k. AreHeard r.memory.causal (last_world tape) first (past k tape).heard) size
        (subst (λ t. AreHeard r.memory.causal (last_world tape) t (past (quantum_of r.spec) tape).heard) (sym is) stands.causal))
        has.fresh_causal;
    kept = kept_now has.fresh_delays;
  }

  long : length longer ≡ length tape + 1
  long = length-append tape (w ∷ [])

  ends : first + q ≡ q * length longer
  ends = ap (λ t. t + q) begins_now ∙ sym (next_quantum q (length tape)) ∙ ap (λ n. q * n) (sym long)

  quanta : r.quanta + 1 ≡ length longer
  quanta = ap (λ n. n + 1) stands.quanta ∙ sym long

  time : first + q ≡ q * (r.quanta + 1)
  time = ends ∙ ap (λ n. q * n) (sym quanta)

  most : (a b : ℕ) → a ≤ b → max a b ≡ b
  most a b l = grind arith

  few : length (last_world tape).nodes ≤ length w.nodes
  few = last_few w (some_frames w valid) tape regular_now

  -- as many nodes as the world has are remembered
  pub causal_nodes : HasMemory r w → length r.memory.causal.nodes ≡ length w.nodes
  causal_nodes has = has.causal_count ∙ most r.memory.causal.known (length w.nodes) (subst (λ k. k ≤ length w.nodes) (sym stands.nodes.0) few)

  pub delay_nodes : HasMemory r w → length r.memory.delays.delays ≡ length w.nodes
  delay_nodes has = has.delay_count ∙ most r.memory.delays.known (length w.nodes) (subst (λ k. k ≤ length w.nodes) (sym stands.nodes.1) few)

  -- with what is remembered after the quantum the renderer stands for the longer tape
  pub stands_on : (memory : Memory) → memory.delays.quantum ≡ quantum_of r.spec → memory.causal.known ≡ length w.nodes → memory.delays.known ≡ length w.nodes → IsMemory memory w tape (first + q)
      → StandsFor (record r { quanta = r.quanta + 1; memory = memory }) longer
  stands_on memory after_quantum causal_known delays_known after = record {
    quanta = quanta;
    nodes = (causal_known ∙ nodes, delays_known ∙ nodes);
    causal = subst (λ k. AreHeard memory.causal (last_world longer) (k * (r.quanta + 1)) (past k longer).heard) (sym size)
        (subst (λ t. AreHeard memory.causal (last_world longer) t (past q longer).heard) time
        (remembers_on w (some_frames w valid) tape regular_now memory.causal (first + q) ends after.heard));
    delays = subst (λ k. AreKept memory.delays (last_world longer) (k * (r.quanta + 1)) (past_writer (past k longer))) (sym size)
        (subst (λ t. AreKept memory.delays (last_world longer) t (past_writer (past q longer))) time
        (remember_delays w (some_frames w valid) tape regular_now memory.delays (after_quantum ∙ size) (first + q) ends after.kept));
  }
    where
      nodes : length w.nodes ≡ length (last_world longer).nodes
      nodes = ap (λ (x : World). length x.nodes) (sym (last_now w (some_frames w valid) tape regular_now))
