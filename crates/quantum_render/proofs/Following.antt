-- A renderer whose memory keeps what it had stands for the same tapes.
use Rattle.std.proofs.Common.{ℕ, ◌≡◌, ◌<◌, ◌*◌, List, take, slice_index_or, None, sym, ◌∙◌, ap, subst}
use Rattle.std.proofs.lemmas.List.{get_or-take}
use Rattle.wa_base.specs.Contexts.{quantum_of}
use Rattle.wa_base.specs.declared.contexts.ContextSpec.{ContextSpec}
use Rattle.meaning.specs.declared.world.World.{World}
use Rattle.meaning.specs.World.{node_at}
use Rattle.meaning.specs.Pasts.{last_world, past}
use Rattle.filter_bank.specs.Heard.{IsHeard}
use Rattle.filter_bank.proofs.Same.{kept_heard}
use Rattle.delay_bank.specs.Kept.{IsKept}
use Rattle.delay_bank.specs.Banks.{BankView as DelayBank, delay_at}
use Rattle.quantum_render.specs.Stands.{RendererView, past_writer, StandsFor}

-- delays of which so many are as they were
kept_delays : (old new : DelayBank) (k : ℕ) → take k new.delays ≡ take k old.delays → (n : ℕ) → n < k → delay_at new n ≡ delay_at old n
kept_delays old new k same n low = sym (get_or-take k new.delays n None low) ∙ ap (λ xs. slice_index_or xs n None) same ∙ get_or-take k old.delays n None low

-- so many nodes had a quantum behind them, and what they remember stays
pub stands_like : (r r' : RendererView) → r'.spec ≡ r.spec → r'.quanta ≡ r.quanta → r'.memory.delays.quantum ≡ r.memory.delays.quantum → (k l : ℕ) → r.memory.causal.known ≡ k → r'.memory.causal.known ≡ k → take k r'.memory.causal.nodes ≡ take k r.memory.causal.nodes
    → r.memory.delays.known ≡ l → r'.memory.delays.known ≡ l → take l r'.memory.delays.delays ≡ take l r.memory.delays.delays → (tape : List World) → StandsFor r tape → StandsFor r' tape
stands_like r r' spec quanta quantum k l old_causal new_causal causal old_delays new_delays delays tape stands = record {
  quanta = quanta ∙ stands.quanta;
  nodes = (new_causal ∙ sym old_causal ∙ stands.nodes.0, new_delays ∙ sym old_delays ∙ stands.nodes.1);
  causal = λ n equation low is.
      subst (λ (s : ContextSpec). IsHeard (slice_index_or r'.memory.causal.nodes n None) equation (node_at (last_world tape) n).attrs.birth (quantum_of s * r'.quanta) ((past (quantum_of s) tape).heard n)) (sym spec)
      (subst (λ j. IsHeard (slice_index_or r'.memory.causal.nodes n None) equation (node_at (last_world tape) n).attrs.birth (quantum_of r.spec * j) ((past (quantum_of r.spec) tape).heard n)) (sym quanta)
      (subst (λ o. IsHeard o equation (node_at (last_world tape) n).attrs.birth (quantum_of r.spec * r.quanta) ((past (quantum_of r.spec) tape).heard n))
      (sym (kept_heard r.memory.causal r'.memory.causal k causal n (subst (λ m. n < m) (sym stands.nodes.0 ∙ old_causal) low))) (stands.causal n equation low is)));
  delays = λ n longest time capacity low is.
      subst (λ (s : ContextSpec). IsKept r'.memory.delays.quantum (delay_at r'.memory.delays n) capacity (node_at (last_world tape) n).attrs.birth (quantum_of s * r'.quanta) (past_writer (past (quantum_of s) tape) n)) (sym spec)
      (subst (λ j. IsKept r'.memory.delays.quantum (delay_at r'.memory.delays n) capacity (node_at (last_world tape) n).attrs.birth (quantum_of r.spec * j) (past_writer (past (quantum_of r.spec) tape) n)) (sym quanta)
      (subst (λ q. IsKept q (delay_at r'.memory.delays n) capacity (node_at (last_world tape) n).attrs.birth (quantum_of r.spec * r.quanta) (past_writer (past (quantum_of r.spec) tape) n)) (sym quantum)
      (subst (λ o. IsKept r.memory.delays.quantum o capacity (node_at (last_world tape) n).attrs.birth (quantum_of r.spec * r.quanta) (past_writer (past (quantum_of r.spec) tape) n))
      (sym (kept_delays r.memory.delays r'.memory.delays l delays n (subst (λ m. n < m) (sym stands.nodes.1 ∙ old_delays) low))) (stands.delays n longest time capacity low is))));
}
