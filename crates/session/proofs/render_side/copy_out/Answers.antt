use Rattle.std.proofs.Common.{◌≡◌, ◌<◌, ◌≤◌, ◌+◌, ◌*◌, ◌-◌, ℕ, pos, List, length, take, slice_index_or, arith, length-take, sym, ap, subst}
use Rattle.wa_base.specs.Contexts.{quantum_of}
use Rattle.meaning.specs.declared.world.World.{World}
use Rattle.meaning.specs.Rendered.{sample}
use Rattle.quantum_render.specs.Stands.{Shows}
use Rattle.session.proofs.Copying.{none_copied, channel_copied, block_values}
use Rattle.session.proofs.render_side.copy_out.Goals as goal

pub loop-channel-init : goal.loop-channel-init
loop-channel-init c = λ tape shows first. none_copied c.args.samples.now c.args.spec tape c.args.first (c.args.first + quantum_of c.args.spec)

pub loop-channel-preserved : goal.loop-channel-preserved
loop-channel-preserved c = λ tape shows first.
    let count = c.min-count.result in
    let q = quantum_of c.args.spec in
    let few : count ≤ q = omega (arith, c.min-count.ensures, c.from.ensures) in
    let context : q ≡ quantum_of c.args.renderer.now.spec = ap quantum_of c.requires.context in
    let cancel : (n : ℕ) → n + count - n ≡ count = λ n. omega arith in
    let values = λ (tape : List World) (shows : Shows c.args.renderer.now tape).
    subst (λ q. (m : ℕ) → m < q → slice_index_or c.out.result.now m (pos 0) ≡ sample q tape (q * (length tape - 1) + m) c.loop-channel.channel) (sym context) (c.out.ensures.values tape shows) in
    let block : c.copy_from_slice.new.self ≡ take count c.out.result.now = c.copy_from_slice.ensures.after in
    rw (c.from-in-loop-channel.ensures, cancel (c.loop-channel.channel * c.args.spec.length + c.args.first), block)
    (channel_copied c.args.samples.now c.loop-channel.samples (take count c.out.result.now) c.args.spec tape c.args.first c.loop-channel.channel count (rw c.from.ensures at c.min-count.ensures) c.requires.first c.loop-channel-test.true c.loop-channel.auto.samples c.requires.room
    (omega (arith, length-take count c.out.result.now, c.out.ensures.length, context)) (block_values q tape c.out.result.now c.args.first c.loop-channel.channel count first few (values tape shows)) (c.loop-channel.invariant tape shows first))
