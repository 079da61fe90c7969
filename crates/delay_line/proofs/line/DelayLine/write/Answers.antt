use Rattle.std.proofs.Common.{ℕ, ℤ, ◌≡◌, ◌+◌, ◌<◌, ◌≤◌, List, length, get_or, ap, sym, subst, ◌∙◌}
use Rattle.std.proofs.lemmas.List.{length-map, with_items_is}
use Rattle.circular_buffer.specs.Buffer.{Buffer}
use Rattle.delay_line.specs.Lines.{Line, Keeps, IsNext}
use Rattle.delay_line.specs.Rings.{IsExtended}
use Rattle.delay_line.proofs.Keeping.{line_with, IsWritten, keeps_written}
use Rattle.delay_line.proofs.Writing.{items_of, rings_written}
use Rattle.delay_line.proofs.line.DelayLine.write.Goals as goal

pub returns-clause-keeps : goal.returns-clause-keeps
returns-clause-keeps c = λ writer keeps next.
    let inside = c.self.inside in
    let inv = c.self.invariant in
    let same = sym c.self.view_is in
    let rings = inside.rings.items in
    let rings' = c.write_rings.new.rings in
    let room : c.args.channels ≤ length rings = subst (λ n. c.args.channels ≤ n) (ap (λ (line : Line). length line.channels) same ∙ length-map rings _) c.requires.room in
    let extended : (k : ℕ) (ring : Buffer ℤ) → k < length rings → IsExtended (get_or rings k ring) (get_or rings' k ring) c.args.block.now c.args.channels inside.block k =
    subst (λ (list : List (Buffer ℤ)). (k : ℕ) (ring : Buffer ℤ) → k < length list → IsExtended (get_or list k ring) (get_or rings' k ring) c.args.block.now c.args.channels inside.block k)
    c.deref_mut.ensures.value c.write_rings.ensures in
    let long : length rings' ≡ length rings = c.write_rings.auto.rings ∙ ap length c.deref_mut.ensures.value in
    let all = with_items_is inside.rings rings' (c.write_rings.auto.rings ∙ c.deref_mut.ensures.len) in
    let new = rings_written inside.capacity inside.block inside.counts.capacity c.args.channels inside.counts.items rings rings' c.args.block.now
    inv.block.0 inv.counts_reach long room inv.rings_reach extended in
    let counted = ap (λ (b : Buffer ℕ). b.items) c.push.ensures in
    subst (λ list. Keeps (line_with inside.capacity inside.block (inside.blocks + 1) c.push.new.self.items (items_of list)) writer) (sym all)
    (keeps_written inside.capacity inside.block inside.blocks inside.counts.items c.push.new.self.items (items_of rings) (items_of rings') writer c.args.channels c.args.block.now inv.block.0
    (subst (λ counts. IsWritten inside.capacity inside.block inside.counts.items counts (items_of rings) (items_of rings') c.args.channels c.args.block.now) (sym counted) new)
    (subst (λ (line : Line). Keeps line writer) same keeps) (subst (λ (line : Line). IsNext line writer c.args.channels c.args.block.now) same next))
