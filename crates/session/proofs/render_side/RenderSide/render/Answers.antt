use Rattle.std.proofs.Common.{ℕ, ◌≡◌, ◌+◌, ◌*◌, ◌++◌, ◌∷◌, [], List, length, sym, ◌∙◌, ap, subst, arith, length-append}
use Rattle.law_base.proofs.Rows.{next_quantum}
use Rattle.wa_base.specs.Contexts.{quantum_of}
use Rattle.meaning.specs.declared.world.World.{World}
use Rattle.meaning.specs.World.{plain}
use Rattle.meaning.specs.Worlds.{IsRegular}
use Rattle.control_msgs.specs.Messages.{after_messages}
use Rattle.session.specs.Rows.{samples_of}
use Rattle.session.specs.View.{IsStanding, Renders}
use Rattle.control_msgs.specs.declared.message.Message.{Message}
use Rattle.meaning.proofs.Valid.{plain_valid}
use Rattle.quantum_render.specs.Stands.{plan_of}
use Rattle.session.proofs.Settling.{standing_raw, standing_plain}
use Rattle.session.proofs.Planning.{plans_on}
use Rattle.session.proofs.Standing.{length_worlds, raw_regular, renders_more, samples_more}
use Rattle.session.proofs.render_side.RenderSide.render.Goals as goal

-- the world that was sent is the one that is rendered
heard : (c : goal.After-samples-1) → plain c.drain_into.new.world ≡ after_messages (plain c.self.inside.world) c.self.inside.queue.messages
heard c = c.in_ok-drain_into.ensures.ok.1

-- the frames of one quantum more
next_turn : (q first n more : ℕ) → first ≡ q * n → more ≡ n + 1 → first + q ≡ q * more
next_turn q first n more is next = ap (λ f. f + q) is ∙ sym (next_quantum q n) ∙ ap (λ k. q * k) (sym next)

pub render_quantum-requires-clause-planned : goal.render_quantum-requires-clause-planned
render_quantum-requires-clause-planned c = plans_on (plan_of c.self.inside.renderer) c.self.inside.world.graph c.drain_into.new.world.graph c.drain_into.ensures.graph c.self.invariant.plans

pub render_quantum-requires-clause-standing : goal.render_quantum-requires-clause-standing
render_quantum-requires-clause-standing c =
    standing_raw c.self.inside.standing c.self.inside.renderer c.drain_into.new.world (subst (IsStanding c.self.inside.standing c.self.inside.renderer) (sym c.in_ok-drain_into.ensures.ok.1) c.self.invariant.stands)

pub invariant_of-self-2 : goal.invariant_of-self-2
invariant_of-self-2 c = record {
  valid = plain_valid c.drain_into.new.world c.drain_into.ensures.valid;
  accepted = c.drain_into.ensures.accepted;
  plans = c.render_quantum.ensures.planned;
  stands = subst (λ (ms : List Message). IsStanding c.in_ok-self-inside.field-0 c.render_quantum.new.renderer (after_messages (plain c.drain_into.new.world) ms)) (sym c.in_ok-drain_into.ensures.ok.0)
      (standing_plain c.in_ok-self-inside.field-0 c.render_quantum.new.renderer c.drain_into.new.world c.in_ok-self-inside.ensures.standing);
}

pub returns-clause-ok : goal.returns-clause-ok
returns-clause-ok c =
    let world = c.drain_into.new.world in
    let renderer = c.render_quantum.new.renderer in
    let rendered = c.in_ok-self-inside.ensures in
    let at = rw (← c.self.view_is) at c.requires.at in
    let long = rw (← c.self.view_is) at c.requires.long in
    let q = quantum_of world.spec in
    let size : q ≡ quantum_of (after_messages (plain c.self.inside.world) c.self.inside.queue.messages).spec = ap (λ (x : World). quantum_of x.spec) (heard c) in
    let low = c.drain_into.ensures.valid.spec.quantum.low in
    rw (← c.self.view_is) record {
      world = c.drain_into.ensures.left;
      room = c.drain_into.ensures.room;
      at = record { context = rendered.spec ∙ at.context; quanta = next_turn _ _ _ _ at.quanta rendered.quanta };
      renders = λ tape before regular.
          let raw = subst (λ (x : World). IsRegular (quantum_of x.spec) (tape ++ x ∷ [])) (sym (heard c)) regular in
          subst (λ (x : World). Renders (tape ++ x ∷ []) renderer) (heard c)
          (renders_more tape before.worlds world renderer before.alike (rendered.stands before.worlds before.stands (raw_regular q tape before.worlds world before.alike raw)));
      samples = λ tape before regular first samples.
          let raw = subst (λ (x : World). IsRegular (quantum_of x.spec) (tape ++ x ∷ [])) (sym (heard c)) regular in
          let shows = rendered.shows before.worlds before.stands (raw_regular q tape before.worlds world before.alike raw) in
          let count = length_worlds tape before.worlds before.alike in
          let from : c.args.first ≡ q * length tape = first ∙ ap (λ n. n * length tape) (sym size) in
          let next : c.args.first + q ≡ q * length (before.worlds ++ world ∷ []) = next_turn q c.args.first (length tape) _ from (omega (arith, count, length-append before.worlds (world ∷ []))) in
          samples_more tape before.worlds world world.spec c.args.samples.now c.copy_out.new.samples c.args.first before.alike from (samples ∙ ap (λ (x : World). samples_of tape x.spec) (sym (heard c)))
          (c.copy_out.ensures (before.worlds ++ world ∷ []) shows next) c.drain_into.ensures.valid.spec.length_low (omega (arith, low)) c.copy_out.auto.samples (long ∙ ap (λ (x : World). x.spec.channels * x.spec.length) (sym (heard c)))
          ∙ ap (λ (x : World). samples_of (tape ++ x ∷ []) x.spec) (heard c);
    }
