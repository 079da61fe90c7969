use Rattle.std.proofs.Common.{ℕ, ◌≡◌, ◌+◌, ◌/◌, ◌<◌, ◌≤◌, max, List, ◌∙◌, ap, subst, arith}
use Rattle.std.specs.Prelude.{if◌then◌else◌}
use Rattle.wa_base.specs.Numbers.{IsFix}
use Rattle.node_table.specs.Delays.{frames_of}
use Rattle.node_table.specs.declared.nodes.Attrs.{Attrs}
use Rattle.conn_graph.specs.Ends.{in_cycle}
use Rattle.meaning.specs.declared.world.World.{World}
use Rattle.meaning.specs.World.{node_at}
use Rattle.explain.specs.declared.facts.Fact.{Fact}
use Rattle.derivations.specs.declared.tape.Stretch.{Stretch}
use Rattle.derivations.specs.Contexts.{tape_in}
use Rattle.derivations.proofs.Answering.{none_as, some_as, on_some_as}
use Rattle.derivations.proofs.Delaying.{time_missing, time_is_fix, born_before, cast_fits, cast_is, young_known, old_writer, old_before, old_after, old_known, old_missing}
use Rattle.derivations.proofs.Writers.{attrs_are, node_low, delay_there}
use Rattle.derivations.proofs.outputs.next_delayed.Goals as goal

pub returns-in_default-clause-some : goal.returns-in_default-clause-some
returns-in_default-clause-some c =
    let q : ℕ = c.args.context.quantum in
    let tape : List World = tape_in c.args.context in
    let facts : List Fact = c.args.context.known.now in
    let f : ℕ = c.args.frame in
    let n : ℕ = c.args.node.0 in
    let s : Stretch = c.args.stretch.now in
    time_missing q tape facts c.requires.ready f n s c.requires.piece c.requires.node c.requires.delay c.in_default.ensures.none

pub overflow_cast-time : goal.overflow_cast-time
overflow_cast-time c =
    let q : ℕ = c.args.context.quantum in
    let tape : List World = tape_in c.args.context in
    let facts : List Fact = c.args.context.known.now in
    let f : ℕ = c.args.frame in
    let n : ℕ = c.args.node.0 in
    let s : Stretch = c.args.stretch.now in
    let fix : IsFix c.in-Some.time.value = time_is_fix q tape facts c.requires.ready f n s c.requires.piece c.requires.node c.requires.delay c.in-Some.time c.in-Some.ensures.found.0 c.in-Some.ensures.found.1 in
    cast_fits c.in-Some.time.value fix

pub delay_frames-frames-requires-clause-node : goal.delay_frames-frames-requires-clause-node
delay_frames-frames-requires-clause-node c =
    let q : ℕ = c.args.context.quantum in
    let tape : List World = tape_in c.args.context in
    let facts : List Fact = c.args.context.known.now in
    let f : ℕ = c.args.frame in
    let n : ℕ = c.args.node.0 in
    let s : Stretch = c.args.stretch.now in
    node_low q c.requires.ready.some tape c.requires.ready.regular facts (f / q) n s c.requires.piece c.requires.node c.requires.delay

pub delay_frames-frames-requires-clause-delay : goal.delay_frames-frames-requires-clause-delay
delay_frames-frames-requires-clause-delay c =
    let q : ℕ = c.args.context.quantum in
    let tape : List World = tape_in c.args.context in
    let facts : List Fact = c.args.context.known.now in
    let f : ℕ = c.args.frame in
    let n : ℕ = c.args.node.0 in
    let s : Stretch = c.args.stretch.now in
    delay_there q c.requires.ready.some tape c.requires.ready.regular facts (f / q) n s c.requires.piece c.requires.node c.requires.delay

pub overflow_sub-frame : goal.overflow_sub-frame
overflow_sub-frame c =
    let q : ℕ = c.args.context.quantum in
    let tape : List World = tape_in c.args.context in
    let facts : List Fact = c.args.context.known.now in
    let f : ℕ = c.args.frame in
    let n : ℕ = c.args.node.0 in
    let s : Stretch = c.args.stretch.now in
    let w : World = s.piece.world in
    let birth : (node_at w n).attrs.birth ≡ c.attrs.result.birth = ap (λ (x : Attrs). x.birth) (attrs_are w.nodes n c.attrs.result c.attrs.ensures.value) in
    subst (λ b. b ≤ f) birth (born_before q tape facts c.requires.ready f n s c.requires.piece c.requires.node c.requires.delay)

pub returns-then-frame-attrs-clause-none : goal.returns-then-frame-attrs-clause-none
returns-then-frame-attrs-clause-none c =
    let q : ℕ = c.args.context.quantum in
    let tape : List World = tape_in c.args.context in
    let facts : List Fact = c.args.context.known.now in
    let f : ℕ = c.args.frame in
    let n : ℕ = c.args.node.0 in
    let s : Stretch = c.args.stretch.now in
    let fix : IsFix c.in-Some.time.value = time_is_fix q tape facts c.requires.ready f n s c.requires.piece c.requires.node c.requires.delay c.in-Some.time c.in-Some.ensures.found.0 c.in-Some.ensures.found.1 in
    let w : World = s.piece.world in
    let birth : (node_at w n).attrs.birth ≡ c.attrs.result.birth = ap (λ (x : Attrs). x.birth) (attrs_are w.nodes n c.attrs.result c.attrs.ensures.value) in
    let d : ℕ = c.delay_frames-frames.result in
    let long : d ≡ (let frames = frames_of c.in-Some.time.value w.spec.rate in if in_cycle w.graph.value n then max q frames else frames) =
    c.delay_frames-frames.ensures ∙ ap (λ v. let frames = frames_of v w.spec.rate in if in_cycle w.graph.value n then max q frames else frames) (cast_is c.in-Some.time.value fix) in
    let born = born_before q tape facts c.requires.ready f n s c.requires.piece c.requires.node c.requires.delay in
    let early = c.if-frame-attrs.true in
    let young : f < (node_at w n).attrs.birth + d = omega (arith, early, born, birth) in
    young_known q tape facts c.requires.ready f n s c.requires.piece c.requires.node c.requires.delay c.in-Some.time c.in-Some.ensures.found.0 c.in-Some.ensures.found.1 d long young

pub next_carried-requires-clause-output : goal.next_carried-requires-clause-output
next_carried-requires-clause-output c =
    let q : ℕ = c.args.context.quantum in
    let tape : List World = tape_in c.args.context in
    let facts : List Fact = c.args.context.known.now in
    let f : ℕ = c.args.frame in
    let n : ℕ = c.args.node.0 in
    let s : Stretch = c.args.stretch.now in
    let fix : IsFix c.in-Some.time.value = time_is_fix q tape facts c.requires.ready f n s c.requires.piece c.requires.node c.requires.delay c.in-Some.time c.in-Some.ensures.found.0 c.in-Some.ensures.found.1 in
    let w : World = s.piece.world in
    let birth : (node_at w n).attrs.birth ≡ c.attrs.result.birth = ap (λ (x : Attrs). x.birth) (attrs_are w.nodes n c.attrs.result c.attrs.ensures.value) in
    let d : ℕ = c.delay_frames-frames.result in
    let long : d ≡ (let frames = frames_of c.in-Some.time.value w.spec.rate in if in_cycle w.graph.value n then max q frames else frames) =
    c.delay_frames-frames.ensures ∙ ap (λ v. let frames = frames_of v w.spec.rate in if in_cycle w.graph.value n then max q frames else frames) (cast_is c.in-Some.time.value fix) in
    let born = born_before q tape facts c.requires.ready f n s c.requires.piece c.requires.node c.requires.delay in
    let later = c.if-frame-attrs.false in
    let old : (node_at w n).attrs.birth + d ≤ f = omega (arith, later, born, birth) in
    old_writer q tape facts c.requires.ready f n s c.requires.piece c.requires.node c.requires.delay c.in-Some.time c.in-Some.ensures.found.0 c.in-Some.ensures.found.1 d long old

pub next_carried-requires-clause-before : goal.next_carried-requires-clause-before
next_carried-requires-clause-before c =
    let q : ℕ = c.args.context.quantum in
    let tape : List World = tape_in c.args.context in
    let facts : List Fact = c.args.context.known.now in
    let f : ℕ = c.args.frame in
    let n : ℕ = c.args.node.0 in
    let s : Stretch = c.args.stretch.now in
    let fix : IsFix c.in-Some.time.value = time_is_fix q tape facts c.requires.ready f n s c.requires.piece c.requires.node c.requires.delay c.in-Some.time c.in-Some.ensures.found.0 c.in-Some.ensures.found.1 in
    let w : World = s.piece.world in
    let birth : (node_at w n).attrs.birth ≡ c.attrs.result.birth = ap (λ (x : Attrs). x.birth) (attrs_are w.nodes n c.attrs.result c.attrs.ensures.value) in
    let d : ℕ = c.delay_frames-frames.result in
    let long : d ≡ (let frames = frames_of c.in-Some.time.value w.spec.rate in if in_cycle w.graph.value n then max q frames else frames) =
    c.delay_frames-frames.ensures ∙ ap (λ v. let frames = frames_of v w.spec.rate in if in_cycle w.graph.value n then max q frames else frames) (cast_is c.in-Some.time.value fix) in
    let born = born_before q tape facts c.requires.ready f n s c.requires.piece c.requires.node c.requires.delay in
    let later = c.if-frame-attrs.false in
    let old : (node_at w n).attrs.birth + d ≤ f = omega (arith, later, born, birth) in
    old_before q tape facts c.requires.ready f n s c.requires.piece c.requires.node c.requires.delay c.in-Some.time c.in-Some.ensures.found.0 c.in-Some.ensures.found.1 d long old c.args.item.now c.requires.before

pub returns-clause-none : goal.returns-clause-none
returns-clause-none c =
    let q : ℕ = c.args.context.quantum in
    let tape : List World = tape_in c.args.context in
    let facts : List Fact = c.args.context.known.now in
    let f : ℕ = c.args.frame in
    let n : ℕ = c.args.node.0 in
    let s : Stretch = c.args.stretch.now in
    let fix : IsFix c.in-Some.time.value = time_is_fix q tape facts c.requires.ready f n s c.requires.piece c.requires.node c.requires.delay c.in-Some.time c.in-Some.ensures.found.0 c.in-Some.ensures.found.1 in
    let w : World = s.piece.world in
    let birth : (node_at w n).attrs.birth ≡ c.attrs.result.birth = ap (λ (x : Attrs). x.birth) (attrs_are w.nodes n c.attrs.result c.attrs.ensures.value) in
    let d : ℕ = c.delay_frames-frames.result in
    let long : d ≡ (let frames = frames_of c.in-Some.time.value w.spec.rate in if in_cycle w.graph.value n then max q frames else frames) =
    c.delay_frames-frames.ensures ∙ ap (λ v. let frames = frames_of v w.spec.rate in if in_cycle w.graph.value n then max q frames else frames) (cast_is c.in-Some.time.value fix) in
    let born = born_before q tape facts c.requires.ready f n s c.requires.piece c.requires.node c.requires.delay in
    let later = c.if-frame-attrs.false in
    let old : (node_at w n).attrs.birth + d ≤ f = omega (arith, later, born, birth) in
    none_as c.next_carried.result (old_known q tape facts c.requires.ready f n s c.requires.piece c.requires.node c.requires.delay c.in-Some.time c.in-Some.ensures.found.0 c.in-Some.ensures.found.1 d long old) c.next_carried.ensures.none

pub returns-clause-some : goal.returns-clause-some
returns-clause-some c =
    let q : ℕ = c.args.context.quantum in
    let tape : List World = tape_in c.args.context in
    let facts : List Fact = c.args.context.known.now in
    let f : ℕ = c.args.frame in
    let n : ℕ = c.args.node.0 in
    let s : Stretch = c.args.stretch.now in
    let fix : IsFix c.in-Some.time.value = time_is_fix q tape facts c.requires.ready f n s c.requires.piece c.requires.node c.requires.delay c.in-Some.time c.in-Some.ensures.found.0 c.in-Some.ensures.found.1 in
    let w : World = s.piece.world in
    let birth : (node_at w n).attrs.birth ≡ c.attrs.result.birth = ap (λ (x : Attrs). x.birth) (attrs_are w.nodes n c.attrs.result c.attrs.ensures.value) in
    let d : ℕ = c.delay_frames-frames.result in
    let long : d ≡ (let frames = frames_of c.in-Some.time.value w.spec.rate in if in_cycle w.graph.value n then max q frames else frames) =
    c.delay_frames-frames.ensures ∙ ap (λ v. let frames = frames_of v w.spec.rate in if in_cycle w.graph.value n then max q frames else frames) (cast_is c.in-Some.time.value fix) in
    let born = born_before q tape facts c.requires.ready f n s c.requires.piece c.requires.node c.requires.delay in
    let later = c.if-frame-attrs.false in
    let old : (node_at w n).attrs.birth + d ≤ f = omega (arith, later, born, birth) in
    some_as c.next_carried.result (old_missing q tape facts c.requires.ready f n s c.requires.piece c.requires.node c.requires.delay c.in-Some.time c.in-Some.ensures.found.0 c.in-Some.ensures.found.1 d long old) c.next_carried.ensures.some

pub returns-clause-after : goal.returns-clause-after
returns-clause-after c =
    let q : ℕ = c.args.context.quantum in
    let tape : List World = tape_in c.args.context in
    let facts : List Fact = c.args.context.known.now in
    let f : ℕ = c.args.frame in
    let n : ℕ = c.args.node.0 in
    let s : Stretch = c.args.stretch.now in
    let fix : IsFix c.in-Some.time.value = time_is_fix q tape facts c.requires.ready f n s c.requires.piece c.requires.node c.requires.delay c.in-Some.time c.in-Some.ensures.found.0 c.in-Some.ensures.found.1 in
    let w : World = s.piece.world in
    let birth : (node_at w n).attrs.birth ≡ c.attrs.result.birth = ap (λ (x : Attrs). x.birth) (attrs_are w.nodes n c.attrs.result c.attrs.ensures.value) in
    let d : ℕ = c.delay_frames-frames.result in
    let long : d ≡ (let frames = frames_of c.in-Some.time.value w.spec.rate in if in_cycle w.graph.value n then max q frames else frames) =
    c.delay_frames-frames.ensures ∙ ap (λ v. let frames = frames_of v w.spec.rate in if in_cycle w.graph.value n then max q frames else frames) (cast_is c.in-Some.time.value fix) in
    let born = born_before q tape facts c.requires.ready f n s c.requires.piece c.requires.node c.requires.delay in
    let later = c.if-frame-attrs.false in
    let old : (node_at w n).attrs.birth + d ≤ f = omega (arith, later, born, birth) in
    on_some_as c.next_carried.result (old_after q tape facts c.requires.ready f n s c.requires.piece c.requires.node c.requires.delay c.in-Some.time c.in-Some.ensures.found.0 c.in-Some.ensures.found.1 d long old c.next_carried.new.item) c.next_carried.ensures.after
