use Rattle.std.proofs.Common.{ℕ, ◌≡◌, ◌+◌, ◌-◌, ◌<◌, ◌≤◌, min, List, refl, ap, arith}
use Rattle.node_table.specs.declared.kinds.Kind.{Kind}
use Rattle.node_table.specs.declared.nodes.Attrs.{Attrs}
use Rattle.meaning.specs.declared.world.World.{World}
use Rattle.meaning.specs.World.{node_at, kind_of}
use Rattle.explain.specs.declared.facts.Key.{Key}
use Rattle.explain.specs.declared.facts.Fact.{Fact}
use Rattle.explain.specs.Accounts.{Account}
use Rattle.derivations.specs.declared.tape.Stretch.{Stretch}
use Rattle.derivations.specs.Contexts.{tape_in}
use Rattle.derivations.specs.Groups.{read_keys, history_group}
use Rattle.derivations.specs.Reaches.{reach_of}
use Rattle.derivations.proofs.Ages.{born, then_frame, then_history, group_then, rest_none}
use Rattle.derivations.proofs.Leading.{next_past, all_past, missing_in, known_as, missing_as}
use Rattle.derivations.proofs.Writers.{kind_is, attrs_are}
use Rattle.derivations.proofs.histories.next_of_history.Goals as goal

pub overflow_sub-age : goal.overflow_sub-age
overflow_sub-age c =
    let q : ℕ = c.args.context.quantum in
    let tape : List World = tape_in c.args.context in
    let facts : List Fact = c.args.context.known.now in
    let f : ℕ = c.args.frame in
    let n : ℕ = c.args.node.0 in
    let s : Stretch = c.piece_at-stretch.result.now in
    let w : World = s.piece.world in
    let kind : Kind = c.kind-kind.result.now in
    let birth : ℕ = c.attrs.result.birth in
    let kind_of_node : kind_of w n ≡ kind = kind_is w.nodes n kind c.kind-kind.ensures.value in
    let birth_of_node : (node_at w n).attrs.birth ≡ birth = ap (λ (x : Attrs). x.birth) (attrs_are w.nodes n c.attrs.result c.attrs.ensures.value) in
    born q tape facts c.requires.ready f n c.args.channel s c.piece_at-stretch.ensures c.requires.node c.requires.history kind kind_of_node birth birth_of_node

pub loop-ago-init : goal.loop-ago-init
loop-ago-init c = record { here = refl; past = c.requires.before }

pub missing_ago-requires : goal.missing_ago-requires
missing_ago-requires c =
    let q : ℕ = c.args.context.quantum in
    let tape : List World = tape_in c.args.context in
    let facts : List Fact = c.args.context.known.now in
    let f : ℕ = c.args.frame in
    let n : ℕ = c.args.node.0 in
    let s : Stretch = c.piece_at-stretch.result.now in
    let w : World = s.piece.world in
    let kind : Kind = c.kind-kind.result.now in
    let birth : ℕ = c.attrs.result.birth in
    let kind_of_node : kind_of w n ≡ kind = kind_is w.nodes n kind c.kind-kind.ensures.value in
    let birth_of_node : (node_at w n).attrs.birth ≡ birth = ap (λ (x : Attrs). x.birth) (attrs_are w.nodes n c.attrs.result c.attrs.ensures.value) in
    let ago : ℕ = c.loop-ago.ago in
    let last = c.min-ago-end.ensures in
    let more = c.saturating_add.ensures in
    let low = born q tape facts c.requires.ready f n c.args.channel s c.piece_at-stretch.ensures c.requires.node c.requires.history kind kind_of_node birth birth_of_node in
    let young : ago < f + 1 - birth = omega (arith, last, more, low) in
    let then = then_history q tape facts c.requires.ready f n c.args.channel s c.piece_at-stretch.ensures c.requires.node c.requires.history kind kind_of_node birth birth_of_node ago young in
    record {
      ready = c.requires.ready;
      there = then_frame q tape facts c.requires.ready f n c.args.channel s c.piece_at-stretch.ensures c.requires.node c.requires.history kind kind_of_node birth birth_of_node ago young;
      node = then.node;
      history = then.history;
      channel = c.requires.channel;
    }

pub loop-ago-preserved : goal.loop-ago-preserved
loop-ago-preserved c =
    let q : ℕ = c.args.context.quantum in
    let tape : List World = tape_in c.args.context in
    let facts : List Fact = c.args.context.known.now in
    let f : ℕ = c.args.frame in
    let n : ℕ = c.args.node.0 in
    let s : Stretch = c.piece_at-stretch.result.now in
    let w : World = s.piece.world in
    let kind : Kind = c.kind-kind.result.now in
    let birth : ℕ = c.attrs.result.birth in
    let kind_of_node : kind_of w n ≡ kind = kind_is w.nodes n kind c.kind-kind.ensures.value in
    let birth_of_node : (node_at w n).attrs.birth ≡ birth = ap (λ (x : Attrs). x.birth) (attrs_are w.nodes n c.attrs.result c.attrs.ensures.value) in
    let ago : ℕ = c.loop-ago.ago in
    let last = c.min-ago-end.ensures in
    let more = c.saturating_add.ensures in
    let low = born q tape facts c.requires.ready f n c.args.channel s c.piece_at-stretch.ensures c.requires.node c.requires.history kind kind_of_node birth birth_of_node in
    let young : ago < f + 1 - birth = omega (arith, last, more, low) in
    let groups : Account → ℕ → List Key = λ a. history_group q tape a f n c.args.channel in
    let keys : Account → List Key = λ a. read_keys q tape a (f - ago) n c.args.channel kind ago in
    let at : (a : Account) → keys a ≡ groups a ago = group_then q tape facts c.requires.ready f n c.args.channel s c.piece_at-stretch.ensures c.requires.node c.requires.history kind kind_of_node birth birth_of_node ago young in
    record {
      here = omega arith;
      past = next_past q tape facts groups c.loop-ago.place ago c.loop-ago.invariant.here c.loop-ago.invariant.past (known_as q tape facts keys (λ a. groups a ago) at c.in-None.ensures.none);
    }

pub returns-in-Some : goal.returns-in-Some
returns-in-Some c =
    let q : ℕ = c.args.context.quantum in
    let tape : List World = tape_in c.args.context in
    let facts : List Fact = c.args.context.known.now in
    let f : ℕ = c.args.frame in
    let n : ℕ = c.args.node.0 in
    let s : Stretch = c.piece_at-stretch.result.now in
    let w : World = s.piece.world in
    let kind : Kind = c.kind-kind.result.now in
    let birth : ℕ = c.attrs.result.birth in
    let kind_of_node : kind_of w n ≡ kind = kind_is w.nodes n kind c.kind-kind.ensures.value in
    let birth_of_node : (node_at w n).attrs.birth ≡ birth = ap (λ (x : Attrs). x.birth) (attrs_are w.nodes n c.attrs.result c.attrs.ensures.value) in
    let ago : ℕ = c.loop-ago.ago in
    let last = c.min-ago-end.ensures in
    let more = c.saturating_add.ensures in
    let low = born q tape facts c.requires.ready f n c.args.channel s c.piece_at-stretch.ensures c.requires.node c.requires.history kind kind_of_node birth birth_of_node in
    let young : ago < f + 1 - birth = omega (arith, last, more, low) in
    let groups : Account → ℕ → List Key = λ a. history_group q tape a f n c.args.channel in
    let keys : Account → List Key = λ a. read_keys q tape a (f - ago) n c.args.channel kind ago in
    let at : (a : Account) → keys a ≡ groups a ago = group_then q tape facts c.requires.ready f n c.args.channel s c.piece_at-stretch.ensures c.requires.node c.requires.history kind kind_of_node birth birth_of_node ago young in
    record {
      none = tt;
      some = missing_in q tape facts groups ago c.in-Some.key (missing_as q tape facts keys (λ a. groups a ago) at c.in-Some.key c.in-Some.ensures.some);
      after = c.loop-ago.invariant.past;
    }

pub returns : goal.returns
returns c =
    let q : ℕ = c.args.context.quantum in
    let tape : List World = tape_in c.args.context in
    let facts : List Fact = c.args.context.known.now in
    let f : ℕ = c.args.frame in
    let n : ℕ = c.args.node.0 in
    let s : Stretch = c.piece_at-stretch.result.now in
    let w : World = s.piece.world in
    let kind : Kind = c.kind-kind.result.now in
    let birth : ℕ = c.attrs.result.birth in
    let kind_of_node : kind_of w n ≡ kind = kind_is w.nodes n kind c.kind-kind.ensures.value in
    let birth_of_node : (node_at w n).attrs.birth ≡ birth = ap (λ (x : Attrs). x.birth) (attrs_are w.nodes n c.attrs.result c.attrs.ensures.value) in
    let last = c.min-ago-end.ensures in
    let more = c.saturating_add.ensures in
    let here = c.loop-ago.invariant.here in
    let low = born q tape facts c.requires.ready f n c.args.channel s c.piece_at-stretch.ensures c.requires.node c.requires.history kind kind_of_node birth birth_of_node in
    let end : ℕ = min (reach_of kind) (f + 1 - birth) in
    let reach = c.reach.ensures in
    let past_end : end ≤ c.loop-ago.place.group = omega (arith, last, more, here, low, reach) in
    record {
      none = all_past q tape facts (λ a. history_group q tape a f n c.args.channel) c.loop-ago.place end past_end
          (rest_none q tape facts c.requires.ready f n c.args.channel s c.piece_at-stretch.ensures c.requires.node c.requires.history kind kind_of_node birth birth_of_node end refl) c.loop-ago.invariant.past;
      some = tt;
      after = tt;
    }
