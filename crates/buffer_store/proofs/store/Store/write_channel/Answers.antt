use Rattle.std.proofs.Common.{◌≡◌, None, slice_set, sym, ap, ◌∙◌, subst}
use Rattle.buffer_store.specs.Buffers.{with_written, write_refusal, changed_at, refusal_at, total_of, AreBuffers}
use Rattle.buffer_store.proofs.BufferLists.{set_is_changed, set_same, are_buffers_changed, same_total}
use Rattle.buffer_store.proofs.Writing.{keeps_accepted}
use Rattle.buffer_store.proofs.store.Store.write_channel.Goals as goal

changed : (c : goal.In_ok-write)
    → slice_set c.self.inside.buffers.items c.args.buf.0 c.write.new.self
    ≡ changed_at c.args.buf.0 (with_written c.args.channel c.args.samples.now c.args.at) c.self.inside.buffers.items
changed c =
    ap (slice_set c.self.inside.buffers.items c.args.buf.0) c.in_ok-write.ensures.ok
    ∙ set_is_changed c.args.buf.0 (with_written c.args.channel c.args.samples.now c.args.at) c.self.inside.buffers.items c.index_mut.result.now
    c.index_mut.ensures.value

same : (c : goal.After-from_residual) → slice_set c.self.inside.buffers.items c.args.buf.0 c.write.new.self ≡ c.self.inside.buffers.items
same c =
    ap (slice_set c.self.inside.buffers.items c.args.buf.0) c.in_err-write.ensures.err
    ∙ set_same c.args.buf.0 c.self.inside.buffers.items c.index_mut.result.now c.index_mut.ensures.value

pub invariant_of-self : goal.invariant_of-self
invariant_of-self c = (subst AreBuffers (sym (same c)) c.self.invariant.0, c.self.invariant.1 ∙ sym (ap total_of (same c)))

pub invariant_of-self-2 : goal.invariant_of-self-2
invariant_of-self-2 c =
    let accepted : refusal_at c.args.self.now c.args.buf.0 (write_refusal c.args.channel) ≡ None = sym c.write_refusal.ensures ∙ c.in_default.is in
    let keeps = keeps_accepted c.args.channel c.args.samples.now c.args.at c.args.buf.0 c.self.inside.buffers.items (rw (← c.self.view_is) at accepted) in (
      subst AreBuffers (sym (changed c)) (are_buffers_changed c.args.buf.0 _ c.self.inside.buffers.items keeps c.self.invariant.0),
      c.self.invariant.1 ∙ sym (ap total_of (changed c) ∙ same_total c.args.buf.0 _ c.self.inside.buffers.items keeps c.self.invariant.0),
    )

pub returns-clause-ok : goal.returns-clause-ok
returns-clause-ok c = rw (← c.self.view_is) (changed c)
