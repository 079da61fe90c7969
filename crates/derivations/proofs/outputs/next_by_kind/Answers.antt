use Rattle.std.proofs.Common.{ℕ, ◌≡◌, ◌/◌, ◌<◌, List, [], inl, inr, refl, sym, ◌∙◌, ap, arith}
use Rattle.std.specs.Prelude.{if◌then◌else◌}
use Rattle.wa_base.specs.declared.graph_names.End.{End}
use Rattle.wa_base.specs.declared.graph_names.ParamName.TheVariants as params
use Rattle.node_table.specs.Kinds.{param_name}
use Rattle.node_table.specs.declared.kinds.Kind.TheVariants.{Constant, Buffer, Delay, Shaper, Causal}
use Rattle.meaning.specs.declared.world.World.{World}
use Rattle.meaning.specs.World.{sounding, kind_of, sounds_at}
use Rattle.explain.specs.declared.facts.Key.{Key}
use Rattle.explain.specs.declared.facts.Key.TheVariants.{Inlet, Par, Hist}
use Rattle.explain.specs.declared.facts.Fact.{Fact}
use Rattle.explain.specs.Accounts.{Account}
use Rattle.explain.specs.Facts.{IsKeyOf}
use Rattle.explain.specs.Needs.{output_by_kind, delayed_needs}
use Rattle.derivations.specs.declared.tape.Stretch.{Stretch}
use Rattle.derivations.specs.Contexts.{tape_in}
use Rattle.derivations.specs.Groups.{one}
use Rattle.derivations.proofs.Effects.{is_effect}
use Rattle.derivations.proofs.Answering.{none_as, some_as, on_some_as, on_some_by}
use Rattle.derivations.proofs.Heard.{IsAnswer}
use Rattle.derivations.proofs.Leading.{known_as, missing_as}
use Rattle.derivations.proofs.Making.{node_in, written_key, history_key, by_single, offset_needs, buffer_known, delay_is, written_needs, reader_needs, reader_before, reader_after}
use Rattle.derivations.proofs.Worlds.{world_is}
use Rattle.derivations.proofs.Writers.{kind_is}
use Rattle.derivations.proofs.outputs.next_by_kind.Goals as goal

pub kind-requires : goal.kind-requires
kind-requires c =
    let q : ℕ = c.args.context.quantum in
    let tape : List World = tape_in c.args.context in
    let facts : List Fact = c.args.context.known.now in
    let f : ℕ = c.args.sample.frame in
    let e : End = c.args.sample.end in
    let o : ℕ = c.args.sample.output in
    let d : ℕ = c.args.sample.channel in
    let s : Stretch = c.args.stretch.now in
    node_in q tape facts c.requires.ready f e o d c.requires.there s c.requires.piece c.requires.sample.output

pub missing_offset-requires-clause-there : goal.missing_offset-requires-clause-there
missing_offset-requires-clause-there c =
    c.requires.there

pub missing_offset-requires-clause-world : goal.missing_offset-requires-clause-world
missing_offset-requires-clause-world c =
    world_is (tape_in c.args.context) (c.args.sample.frame / c.args.context.quantum) c.args.stretch.now.piece.world c.requires.piece.there

pub missing_offset-requires-clause-key : goal.missing_offset-requires-clause-key
missing_offset-requires-clause-key c =
    let q : ℕ = c.args.context.quantum in
    let tape : List World = tape_in c.args.context in
    let facts : List Fact = c.args.context.known.now in
    let f : ℕ = c.args.sample.frame in
    let e : End = c.args.sample.end in
    let o : ℕ = c.args.sample.output in
    let d : ℕ = c.args.sample.channel in
    let s : Stretch = c.args.stretch.now in
    let same : kind_of s.piece.world e.node.0 ≡ Constant c.in-Constant.offset = kind_is s.piece.world.nodes e.node.0 c.kind.result.now c.kind.ensures.value ∙ c.in-Constant.is in
    record { node = node_in q tape facts c.requires.ready f e o d c.requires.there s c.requires.piece c.requires.sample.output; named = ap param_name same }

pub returns-in-Constant : goal.returns-in-Constant
returns-in-Constant c =
    let q : ℕ = c.args.context.quantum in
    let tape : List World = tape_in c.args.context in
    let facts : List Fact = c.args.context.known.now in
    let f : ℕ = c.args.sample.frame in
    let e : End = c.args.sample.end in
    let o : ℕ = c.args.sample.output in
    let d : ℕ = c.args.sample.channel in
    let s : Stretch = c.args.stretch.now in
    let same : kind_of s.piece.world e.node.0 ≡ Constant c.in-Constant.offset = kind_is s.piece.world.nodes e.node.0 c.kind.result.now c.kind.ensures.value ∙ c.in-Constant.is in
    let keys : Account → List Key = λ a. output_by_kind q tape a f e o d (kind_of s.piece.world e.node.0) in
    let offset : Account → List Key = λ a. if sounds_at (sounding s.piece.world) e.node.0 f then one (Par f e.node params.Offset) else [] in
    let needs : (a : Account) → offset a ≡ keys a = offset_needs q tape facts c.requires.ready f e o d c.requires.there s c.requires.piece c.requires.sample.output c.in-Constant.offset same in
    record {
      none = none_as c.missing_offset.result (known_as q tape facts offset keys needs) c.missing_offset.ensures.none;
      some = some_as c.missing_offset.result (missing_as q tape facts offset keys needs) c.missing_offset.ensures.some;
      after = on_some_by c.missing_offset.result c.requires.before;
    }

pub returns-in-Buffer-clause-none : goal.returns-in-Buffer-clause-none
returns-in-Buffer-clause-none c =
    let q : ℕ = c.args.context.quantum in
    let tape : List World = tape_in c.args.context in
    let facts : List Fact = c.args.context.known.now in
    let f : ℕ = c.args.sample.frame in
    let e : End = c.args.sample.end in
    let o : ℕ = c.args.sample.output in
    let d : ℕ = c.args.sample.channel in
    let s : Stretch = c.args.stretch.now in
    let same : kind_of s.piece.world e.node.0 ≡ Buffer c.in-Buffer.rate = kind_is s.piece.world.nodes e.node.0 c.kind.result.now c.kind.ensures.value ∙ c.in-Buffer.is in
    buffer_known q tape facts c.requires.ready f e o d c.requires.there s c.requires.piece c.requires.sample.output c.in-Buffer.rate same

pub returns-then-sample : goal.returns-then-sample
returns-then-sample c =
    let q : ℕ = c.args.context.quantum in
    let tape : List World = tape_in c.args.context in
    let facts : List Fact = c.args.context.known.now in
    let f : ℕ = c.args.sample.frame in
    let e : End = c.args.sample.end in
    let o : ℕ = c.args.sample.output in
    let d : ℕ = c.args.sample.channel in
    let s : Stretch = c.args.stretch.now in
    let same : kind_of s.piece.world e.node.0 ≡ Delay c.in-Delay.longest c.in-Delay.time c.in-Delay.capacity = kind_is s.piece.world.nodes e.node.0 c.kind.result.now c.kind.ensures.value ∙ c.in-Delay.is in
    let keys : Account → List Key = λ a. output_by_kind q tape a f e o d (kind_of s.piece.world e.node.0) in
    let key : Key = Inlet f e 0 d in
    let there : IsKeyOf q tape key = written_key q tape facts c.requires.ready f e o d c.requires.there s c.requires.piece c.requires.sample.output (Delay c.in-Delay.longest c.in-Delay.time c.in-Delay.capacity) same refl c.if-sample.true d (let l : 0 < 1 = omega arith in l) c.requires.sample.few in
    let answer : IsAnswer q tape facts keys c.missing.result = by_single q tape facts c.requires.ready f e o d c.requires.there s c.requires.piece c.requires.sample.output (Delay c.in-Delay.longest c.in-Delay.time c.in-Delay.capacity) same key (written_needs q tape facts c.requires.ready f e o d c.requires.there s c.requires.piece c.requires.sample.output c.in-Delay.longest c.in-Delay.time c.in-Delay.capacity same c.if-sample.true) there c.inlet.result c.inlet.ensures c.missing.result c.missing.ensures.none c.missing.ensures.some in
    record { none = answer.none; some = answer.some; after = on_some_by c.missing.result c.requires.before }

pub next_delayed-requires : goal.next_delayed-requires
next_delayed-requires c =
    let q : ℕ = c.args.context.quantum in
    let tape : List World = tape_in c.args.context in
    let facts : List Fact = c.args.context.known.now in
    let f : ℕ = c.args.sample.frame in
    let e : End = c.args.sample.end in
    let o : ℕ = c.args.sample.output in
    let d : ℕ = c.args.sample.channel in
    let s : Stretch = c.args.stretch.now in
    let same : kind_of s.piece.world e.node.0 ≡ Delay c.in-Delay.longest c.in-Delay.time c.in-Delay.capacity = kind_is s.piece.world.nodes e.node.0 c.kind.result.now c.kind.ensures.value ∙ c.in-Delay.is in
    record {
      ready = c.requires.ready;
      there = c.requires.there;
      piece = c.requires.piece;
      node = node_in q tape facts c.requires.ready f e o d c.requires.there s c.requires.piece c.requires.sample.output;
      delay = delay_is q tape facts c.requires.ready f e o d c.requires.there s c.requires.piece c.requires.sample.output c.in-Delay.longest c.in-Delay.time c.in-Delay.capacity same;
      before = reader_before q tape facts c.requires.ready f e o d c.requires.there s c.requires.piece c.requires.sample.output c.in-Delay.longest c.in-Delay.time c.in-Delay.capacity same c.if-sample.false c.args.item.now c.requires.before;
    }

pub returns-else-sample : goal.returns-else-sample
returns-else-sample c =
    let q : ℕ = c.args.context.quantum in
    let tape : List World = tape_in c.args.context in
    let facts : List Fact = c.args.context.known.now in
    let f : ℕ = c.args.sample.frame in
    let e : End = c.args.sample.end in
    let o : ℕ = c.args.sample.output in
    let d : ℕ = c.args.sample.channel in
    let s : Stretch = c.args.stretch.now in
    let same : kind_of s.piece.world e.node.0 ≡ Delay c.in-Delay.longest c.in-Delay.time c.in-Delay.capacity = kind_is s.piece.world.nodes e.node.0 c.kind.result.now c.kind.ensures.value ∙ c.in-Delay.is in
    let keys : Account → List Key = λ a. output_by_kind q tape a f e o d (kind_of s.piece.world e.node.0) in
    let delayed : Account → List Key = λ a. delayed_needs q tape a f e.node.0 in
    let needs : (a : Account) → delayed a ≡ keys a = reader_needs q tape facts c.requires.ready f e o d c.requires.there s c.requires.piece c.requires.sample.output c.in-Delay.longest c.in-Delay.time c.in-Delay.capacity same c.if-sample.false in
    record {
      none = none_as c.next_delayed.result (known_as q tape facts delayed keys needs) c.next_delayed.ensures.none;
      some = some_as c.next_delayed.result (missing_as q tape facts delayed keys needs) c.next_delayed.ensures.some;
      after = on_some_as c.next_delayed.result (reader_after q tape facts c.requires.ready f e o d c.requires.there s c.requires.piece c.requires.sample.output c.in-Delay.longest c.in-Delay.time c.in-Delay.capacity same c.if-sample.false c.next_delayed.new.item) c.next_delayed.ensures.after;
    }

pub returns-in-Shaper : goal.returns-in-Shaper
returns-in-Shaper c =
    let q : ℕ = c.args.context.quantum in
    let tape : List World = tape_in c.args.context in
    let facts : List Fact = c.args.context.known.now in
    let f : ℕ = c.args.sample.frame in
    let e : End = c.args.sample.end in
    let o : ℕ = c.args.sample.output in
    let d : ℕ = c.args.sample.channel in
    let s : Stretch = c.args.stretch.now in
    let found : kind_of s.piece.world e.node.0 ≡ c.kind.result.now = kind_is s.piece.world.nodes e.node.0 c.kind.result.now c.kind.ensures.value in
    let keys : Account → List Key = λ a. output_by_kind q tape a f e o d (kind_of s.piece.world e.node.0) in
    let key : Key = Hist f e.node d in
    let answer : IsAnswer q tape facts keys c.missing-in-Shaper.result = elim c.in-Shaper.is [
      | inl is ↦ by_single q tape facts c.requires.ready f e o d c.requires.there s c.requires.piece c.requires.sample.output (Shaper is.0 is.1) (found ∙ is.2) key (λ a. refl) (history_key q tape facts c.requires.ready f e o d c.requires.there s c.requires.piece c.requires.sample.output (Shaper is.0 is.1) (found ∙ is.2) refl d c.requires.sample.few) c.history.result c.history.ensures c.missing-in-Shaper.result c.missing-in-Shaper.ensures.none c.missing-in-Shaper.ensures.some
      | inr is ↦ by_single q tape facts c.requires.ready f e o d c.requires.there s c.requires.piece c.requires.sample.output (Causal is.0) (found ∙ is.1) key (λ a. refl) (history_key q tape facts c.requires.ready f e o d c.requires.there s c.requires.piece c.requires.sample.output (Causal is.0) (found ∙ is.1) refl d c.requires.sample.few) c.history.result c.history.ensures c.missing-in-Shaper.result c.missing-in-Shaper.ensures.none c.missing-in-Shaper.ensures.some
    ] in
    record { none = answer.none; some = answer.some; after = on_some_by c.missing-in-Shaper.result c.requires.before }

pub next_of_effect-requires-clause-kind : goal.next_of_effect-requires-clause-kind
next_of_effect-requires-clause-kind c = kind_is c.args.stretch.now.piece.world.nodes c.args.sample.end.node.0 c.kind.result.now c.kind.ensures.value

pub next_of_effect-requires-clause-effect : goal.next_of_effect-requires-clause-effect
next_of_effect-requires-clause-effect c = is_effect c.kind.result.now c.in_default.not-Constant c.in_default.not-Buffer c.in_default.not-Delay c.in_default.not-Shaper c.in_default.not-Causal

pub returns-in_default : goal.returns-in_default
returns-in_default c =
    let q : ℕ = c.args.context.quantum in
    let tape : List World = tape_in c.args.context in
    let facts : List Fact = c.args.context.known.now in
    let f : ℕ = c.args.sample.frame in
    let e : End = c.args.sample.end in
    let o : ℕ = c.args.sample.output in
    let d : ℕ = c.args.sample.channel in
    let s : Stretch = c.args.stretch.now in
    let found : kind_of s.piece.world e.node.0 ≡ c.kind.result.now = kind_is s.piece.world.nodes e.node.0 c.kind.result.now c.kind.ensures.value in
    let keys : Account → List Key = λ a. output_by_kind q tape a f e o d c.kind.result.now in
    let keys' : Account → List Key = λ a. output_by_kind q tape a f e o d (kind_of s.piece.world e.node.0) in
    let same : (a : Account) → keys a ≡ keys' a = λ a. sym (ap (output_by_kind q tape a f e o d) found) in
    record {
      none = none_as c.next_of_effect.result (known_as q tape facts keys keys' same) c.next_of_effect.ensures.none;
      some = some_as c.next_of_effect.result (missing_as q tape facts keys keys' same) c.next_of_effect.ensures.some;
      after = on_some_by c.next_of_effect.result c.requires.before;
    }
